pub mod CopyCases
pub mod Covering
pub mod Decided
pub mod Runs
pub mod SquareCases
pub mod StageCases
pub mod Tables
