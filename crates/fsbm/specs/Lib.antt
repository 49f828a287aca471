pub mod Accepted
pub mod Answers
pub mod Entries
pub mod Machine
pub mod Moves
pub mod Published
pub mod Reaches
pub mod Rules
