pub mod Day
pub mod Era
pub mod Newest
pub mod Orderly
pub mod Examples
