pub mod Packed
pub mod Ranks
