pub mod Replies
pub mod Refusals
pub mod Results
pub mod Examples
pub mod CallContracts
