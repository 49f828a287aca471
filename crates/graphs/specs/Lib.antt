pub mod Paths
pub mod Reach
pub mod Cost
pub mod Back
pub mod Least
pub mod Working
