pub mod AllExamples
