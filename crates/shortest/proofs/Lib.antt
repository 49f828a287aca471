pub mod FindCases
