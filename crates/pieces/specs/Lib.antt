pub mod Blocks
pub mod Bound
pub mod Pairs
pub mod Pieces
pub mod Rounds
pub mod Spots
pub mod Written
