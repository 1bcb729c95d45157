pub mod Tests
pub mod Cuts
pub mod Loops
pub mod Parts
