pub mod Copies
pub mod Reaching
