pub mod Element
pub mod inner
