pub mod Digits
pub mod Short
