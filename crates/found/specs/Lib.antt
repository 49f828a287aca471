pub mod Best
pub mod Joined
pub mod Runs
pub mod Weighed
