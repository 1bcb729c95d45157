pub mod AllExamples
pub mod Decimal
