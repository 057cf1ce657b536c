pub mod Rotate
pub mod Axes
pub mod inner
