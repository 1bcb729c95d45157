pub mod AllExamples
pub mod Replies
pub mod Mixed
pub mod Promises
