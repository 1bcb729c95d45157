pub mod Grammar
pub mod TreeRows
pub mod Examples
