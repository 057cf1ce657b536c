pub mod Numbers
pub mod Ladder
pub mod Whole
