pub mod Lengths
pub mod Finites
pub mod Rooms
pub mod Unique
pub mod Biases
