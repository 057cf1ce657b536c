pub mod Refusal
pub mod Settings
pub mod Sides
pub mod Places
pub mod Shape
pub mod View
pub mod inner
