pub mod Turns
pub mod Cuts
pub mod Counted
pub mod Lines
pub mod Unique
