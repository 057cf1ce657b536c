pub mod Pieces
pub mod Decimals
pub mod Hexes
pub mod Fields
pub mod Limits
pub mod Unique
