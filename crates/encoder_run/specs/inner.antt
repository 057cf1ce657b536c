pub mod Fits
pub mod Live
pub mod Source
pub mod Forms
