pub mod AnswerCases
pub mod ConfigCases
pub mod MachineCases
