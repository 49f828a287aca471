pub mod Copies
pub mod Examples
pub mod Letters
pub mod Stretches
