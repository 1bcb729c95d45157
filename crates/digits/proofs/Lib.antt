pub mod Numbers
pub mod Spelling
pub mod Reading
