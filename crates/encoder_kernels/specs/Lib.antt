pub mod Kernels
pub mod inner
