pub mod Alphabet
pub mod Seen
pub mod Loading
pub mod Lines
pub mod Translation
pub mod Example
