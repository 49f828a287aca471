pub mod Examples
pub mod Format
pub mod Numbers
pub mod Parts
pub mod Reading
pub mod Series
pub mod Writing
