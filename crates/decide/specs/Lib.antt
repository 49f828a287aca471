pub mod NormalSets
pub mod Reach
pub mod Squares
