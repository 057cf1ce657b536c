pub mod Print
pub mod Answer
pub mod inner
