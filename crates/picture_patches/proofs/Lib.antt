pub mod Patches
pub mod Views
pub mod Fits
pub mod Frames
pub mod Strips
pub mod Lines
