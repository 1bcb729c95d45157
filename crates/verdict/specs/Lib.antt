pub mod Acceptance
pub mod TreeIndex
