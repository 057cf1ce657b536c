pub mod Part
pub mod Unique
pub mod Log
