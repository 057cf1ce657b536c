pub mod Plain
pub mod inner
