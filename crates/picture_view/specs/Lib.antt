pub mod Known
pub mod View
pub mod inner
