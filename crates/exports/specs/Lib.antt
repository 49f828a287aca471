pub mod CommonWords
pub mod Comparison
pub mod Products
pub mod Recognize
pub mod Records
pub mod Run
pub mod YesOrNo
