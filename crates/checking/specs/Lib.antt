pub mod Walking
pub mod Turns
pub mod Opening
