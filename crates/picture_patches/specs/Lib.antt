pub mod Patches
pub mod Resized
pub mod Viewed
pub mod inner
