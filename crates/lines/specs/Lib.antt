pub mod Line
pub mod Items
pub mod Details
pub mod Found
