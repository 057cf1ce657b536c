pub mod Weights
pub mod Settings
pub mod Lengths
pub mod inner
