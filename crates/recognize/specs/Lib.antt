pub mod Recognition
