pub mod Closed
pub mod Reached
