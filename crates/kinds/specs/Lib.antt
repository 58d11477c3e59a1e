pub mod Counts
pub mod Flags
pub mod Kinds
pub mod Refusals
pub mod Steps
pub mod Totals
pub mod Entries
