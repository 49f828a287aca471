pub mod BlocksLaws
pub mod BoundLaws
pub mod PairsLaws
pub mod RoundsLaws
pub mod SpotsLaws
pub mod Tight
