pub mod Suffix
pub mod Named
pub mod Finding
pub mod Sizing
pub mod Unique
pub mod Plain
