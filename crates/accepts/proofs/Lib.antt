pub mod DecisionCases
pub mod WordsCases
