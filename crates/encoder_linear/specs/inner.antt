pub mod Fits
pub mod Lanes
pub mod Room
pub mod Weighed
pub mod Strip
pub mod Values
