pub mod Lengths
pub mod Rooms
pub mod Constants
pub mod Unique
