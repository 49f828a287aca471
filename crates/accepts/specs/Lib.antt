pub mod Decision
pub mod Ready
pub mod Words
