pub mod Named
pub mod Walked
