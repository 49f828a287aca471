pub mod CommonLaws
pub mod Contract
pub mod DemandLaws
pub mod ExamplesLaws
pub mod Search
