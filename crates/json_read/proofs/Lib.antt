pub mod Characters
pub mod Values
pub mod Numbers
pub mod Unique
