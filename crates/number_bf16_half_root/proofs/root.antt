pub mod Scale
pub mod Unique
pub mod Meets
