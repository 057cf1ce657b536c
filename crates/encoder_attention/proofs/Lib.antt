pub mod Keys
pub mod Attends
pub mod Bands
pub mod Values
pub mod Pairs
pub mod Rooms
pub mod Unique
