pub mod Bools
pub mod Each
pub mod Lists
pub mod Pairs
pub mod Search
pub mod Counting
