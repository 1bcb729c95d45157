pub mod Used
pub mod Runs
pub mod Examples
