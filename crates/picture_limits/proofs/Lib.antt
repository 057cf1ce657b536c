pub mod Places
pub mod Sides
pub mod Refusals
pub mod Shapes
pub mod Views
pub mod Unique
