pub mod Unique
pub mod Numbers
pub mod Unread
pub mod Same
pub mod PlainSame
