pub mod AddedCases
pub mod AnswerCases
pub mod MatchCases
pub mod SetsCases
pub mod StoreCases
