pub mod Turns
pub mod Laws
pub mod Examples
pub mod Unique
