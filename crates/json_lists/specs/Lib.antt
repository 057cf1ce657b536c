pub mod Lists
pub mod inner
