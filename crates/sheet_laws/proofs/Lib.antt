pub mod Calls
pub mod FilledLaws
pub mod Lines
pub mod Obeys
pub mod RoundTrip
