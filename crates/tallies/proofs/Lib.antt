pub mod Differing
pub mod Distinct
pub mod Rising
pub mod Sums
