pub mod Halves
pub mod Turns
pub mod Rooms
pub mod Leaves
pub mod Unique
