pub mod Spelling
pub mod Words
