pub mod AlphabetCases
pub mod LoadingCases
pub mod TranslationCases
