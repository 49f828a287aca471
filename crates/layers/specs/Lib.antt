pub mod Costs
pub mod Rows
pub mod Layers
