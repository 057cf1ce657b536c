pub mod Exp
pub mod Tanh
pub mod inner
