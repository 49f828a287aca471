pub mod CopyCases
