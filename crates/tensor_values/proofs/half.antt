pub mod Sizes
pub mod Runs
