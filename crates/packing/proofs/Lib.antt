pub mod Packing
pub mod Widths
pub mod Computed
