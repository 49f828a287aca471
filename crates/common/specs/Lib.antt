pub mod Common
pub mod Demand
pub mod Examples
pub mod Split
