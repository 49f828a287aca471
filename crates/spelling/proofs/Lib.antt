pub mod LetterTable
pub mod Table
pub mod WordCases
