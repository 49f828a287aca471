pub mod Falls
pub mod Turns
