pub mod Passes
pub mod Written
