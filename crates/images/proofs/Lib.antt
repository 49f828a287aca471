pub mod SetCases
pub mod Sweeps
pub mod Decided
