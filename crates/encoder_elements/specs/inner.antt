pub mod Fits
pub mod Gives
pub mod Room
