pub mod Cuts
pub mod Floors
pub mod Halves
pub mod Closest
