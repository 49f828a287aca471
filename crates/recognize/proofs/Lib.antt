pub mod RecognizeCases
