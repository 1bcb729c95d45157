pub mod AllExamples
pub mod Eras
