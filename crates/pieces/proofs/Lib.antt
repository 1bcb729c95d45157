pub mod MarkReading
pub mod RowLaws
pub mod ScanLaws
