pub mod AllExamples
pub mod Runs
