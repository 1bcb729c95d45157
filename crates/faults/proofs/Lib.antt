pub mod RowsOf
pub mod FaultLaws
