pub mod AllExamples
pub mod Written
pub mod Births
pub mod Promises
