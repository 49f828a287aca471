pub mod Examples
pub mod Page
