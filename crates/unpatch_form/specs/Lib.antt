pub mod Words
pub mod Decimal
pub mod Hex
pub mod Form
pub mod inner
