pub mod Examples
pub mod Notches
pub mod Turning
