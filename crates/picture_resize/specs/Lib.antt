pub mod Resize
pub mod inner
