pub mod AllExamples
pub mod CharLaws
pub mod RowLaws
pub mod ScriptLaws
pub mod BytesLaws
