pub mod Holding
pub mod Law
pub mod Unchanged
