pub mod Listed
pub mod Ascii
pub mod Walking
pub mod Told
pub mod Heads
pub mod Unique
