pub mod File
pub mod inner
