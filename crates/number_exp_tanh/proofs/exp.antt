pub mod Twos
pub mod Range
pub mod Terms
pub mod Zeros
