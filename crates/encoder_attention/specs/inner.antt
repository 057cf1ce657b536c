pub mod Fits
pub mod Room
pub mod Keys
pub mod Places
pub mod Values
