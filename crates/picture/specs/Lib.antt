pub mod Preprocess
pub mod Part
pub mod Undo
