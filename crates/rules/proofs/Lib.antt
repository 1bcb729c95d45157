pub mod AllExamples
pub mod Rows
