pub mod CopyCases
pub mod FillCases
pub mod HalvesCases
