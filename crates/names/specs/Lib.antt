pub mod Scripts
pub mod Names
pub mod Examples
