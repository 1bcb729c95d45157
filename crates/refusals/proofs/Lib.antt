pub mod AllExamples
pub mod LineEnds
pub mod Numbers
pub mod Reading
pub mod Promises
pub mod Joining
