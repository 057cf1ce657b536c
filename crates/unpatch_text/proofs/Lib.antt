pub mod Writes
pub mod Short
pub mod Rooms
pub mod Left
pub mod Back
pub mod Laws
