pub mod Cuttings
pub mod Examples
