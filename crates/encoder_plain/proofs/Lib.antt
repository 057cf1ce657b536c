pub mod Loops
pub mod Same
pub mod Heads
pub mod Rooms
pub mod Unique
