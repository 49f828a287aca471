pub mod Column
pub mod Examples
pub mod Held
pub mod Line
