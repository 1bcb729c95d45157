pub mod Dates
pub mod Examples
