pub mod Lookups
pub mod Answers
pub mod Adds
pub mod Results
pub mod Steps
pub mod Since
pub mod Unique
