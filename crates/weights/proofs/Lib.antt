pub mod Entries
pub mod Sums
pub mod Tried
pub mod Answers
pub mod Filling
pub mod Weighs
pub mod Unique
