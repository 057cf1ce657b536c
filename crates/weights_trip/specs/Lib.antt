pub mod Plainest
pub mod Back
