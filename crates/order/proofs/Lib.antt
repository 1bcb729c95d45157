pub mod ByNumber
pub mod Laws
pub mod Run
pub mod Examples
