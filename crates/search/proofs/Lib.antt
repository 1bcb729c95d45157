pub mod AllExamples
pub mod Looks
pub mod Pieces
pub mod Whole
pub mod Promises
