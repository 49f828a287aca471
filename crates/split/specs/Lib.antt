pub mod Lookup
pub mod Split
