pub mod Linear
pub mod inner
