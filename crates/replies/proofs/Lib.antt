pub mod AllExamples
pub mod Results
pub mod Numbers
