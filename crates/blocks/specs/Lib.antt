pub mod Numbers
pub mod Gathered
pub mod Stretches
pub mod Works
pub mod Settling
pub mod Readers
