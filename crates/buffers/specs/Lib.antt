pub mod Rows
pub mod Region
pub mod Each
pub mod Lent
pub mod inner
