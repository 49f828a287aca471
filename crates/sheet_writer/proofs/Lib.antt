pub mod WriteCases
