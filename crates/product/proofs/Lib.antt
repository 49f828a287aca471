pub mod FaultCases
pub mod JoinCases
pub mod LettersCases
pub mod WriteCases
