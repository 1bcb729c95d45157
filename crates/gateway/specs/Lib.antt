pub mod Version
pub mod Examples
