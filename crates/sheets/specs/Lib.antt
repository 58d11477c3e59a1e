pub mod Room
pub mod History
pub mod Sheets
pub mod Few
