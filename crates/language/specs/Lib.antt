pub mod Agreement
pub mod Bound
pub mod Chosen
pub mod Examples
pub mod NoWord
pub mod Reached
pub mod Reaches
pub mod Strings
