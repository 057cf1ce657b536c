pub mod Halving
pub mod Spots
pub mod Unique
