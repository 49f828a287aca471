pub mod BarrenCases
