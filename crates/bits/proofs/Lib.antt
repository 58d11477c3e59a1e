pub mod Counting
pub mod Packing
pub mod Replacing
