pub mod Run
pub mod Record
pub mod inner
