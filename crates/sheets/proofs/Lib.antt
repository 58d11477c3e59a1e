pub mod Altered
pub mod Asking
pub mod Keeping
pub mod Parked
