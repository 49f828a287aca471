pub mod Index
