pub mod MemoCases
