pub mod Groups
pub mod Tallies
