pub mod Grouped
pub mod Cases
pub mod Joins
pub mod Known
