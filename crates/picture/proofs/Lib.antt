pub mod Places
pub mod Accepts
pub mod Numbers
pub mod Spans
pub mod Given
pub mod Undo
pub mod Unseen
pub mod Unique
