pub mod Tallies
pub mod Unique
