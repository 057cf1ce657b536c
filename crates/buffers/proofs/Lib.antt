pub mod Regions
pub mod Puts
pub mod Counts
pub mod Lists
pub mod Steps
pub mod Rooms
pub mod Bytes
pub mod Unique
