pub mod Rotated
pub mod Expanded
pub mod Rooms
pub mod Unique
