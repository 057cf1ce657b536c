pub mod Attention
pub mod inner
