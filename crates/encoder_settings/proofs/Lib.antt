pub mod Weights
pub mod Bounds
pub mod Accepted
pub mod Compared
pub mod Unique
