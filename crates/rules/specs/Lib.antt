pub mod Places
pub mod Questions
pub mod Rules
pub mod Examples
