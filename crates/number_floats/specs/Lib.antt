pub mod Constants
pub mod Size
pub mod Narrow
pub mod Whole
pub mod inner
