pub mod Scripts
pub mod Lines
pub mod AnyLine
pub mod Promises
pub mod AllExamples
