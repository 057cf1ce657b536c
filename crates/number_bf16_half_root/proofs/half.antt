pub mod Fields
pub mod Same
