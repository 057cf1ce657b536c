pub mod Salvage
pub mod Saved
pub mod inner
