pub mod Lists
pub mod Searching
