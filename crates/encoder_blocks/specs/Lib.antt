pub mod Block
pub mod Tables
pub mod inner
