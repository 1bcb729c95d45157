pub mod Counts
pub mod AtFront
pub mod Taken
