pub mod Salvages
pub mod Saved
pub mod Unique
