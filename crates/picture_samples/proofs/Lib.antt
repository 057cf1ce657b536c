pub mod Channels
pub mod Ranges
pub mod Table
pub mod Finds
