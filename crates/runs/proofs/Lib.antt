pub mod WalkCases
