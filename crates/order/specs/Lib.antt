pub mod Questions
pub mod State
pub mod Room
pub mod Run
pub mod Examples
pub mod Steps
