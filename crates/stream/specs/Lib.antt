pub mod Calls
pub mod Examples
pub mod Listing
pub mod LongSheet
pub mod Past
pub mod Pieces
pub mod Whole
