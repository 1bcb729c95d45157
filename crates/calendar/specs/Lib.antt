pub mod Day
pub mod Era
pub mod Form
