pub mod Drives
pub mod Logs
