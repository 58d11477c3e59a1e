pub mod Fitting
pub mod Lawful
