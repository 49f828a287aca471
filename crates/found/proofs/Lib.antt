pub mod SearchCases
pub mod FoundCases
pub mod AnswerCases
