pub mod GoingOn
pub mod Spelled
pub mod TooLate
pub mod PrefixLaws
