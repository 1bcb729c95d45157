pub mod Cells
pub mod Text
pub mod Rows
pub mod Examples
pub mod Scanning
pub mod Count
pub mod Scripts
