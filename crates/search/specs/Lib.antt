pub mod Places
pub mod Looks
pub mod Search
pub mod Examples
