pub mod Stages
pub mod Answer
pub mod inner
