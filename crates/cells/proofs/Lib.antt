pub mod Reach
pub mod Decoding
pub mod Raising
pub mod Stored
pub mod Clearing
