pub mod Walk
pub mod Once
