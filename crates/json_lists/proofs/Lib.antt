pub mod Counted
pub mod Listing
pub mod Turns
pub mod Unique
