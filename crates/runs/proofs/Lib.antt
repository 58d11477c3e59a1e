pub mod Placed
pub mod Summing
pub mod Walking
