pub mod Lines
pub mod Tally
