pub mod Forward
pub mod Axes
pub mod Plain
