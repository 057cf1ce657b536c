pub mod Unique
pub mod Laws
