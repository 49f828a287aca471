pub mod RowCases
pub mod LayerCases
