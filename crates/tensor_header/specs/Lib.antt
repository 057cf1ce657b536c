pub mod Header
pub mod Tensors
pub mod inner
