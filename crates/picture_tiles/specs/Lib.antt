pub mod Cut
pub mod Tile
pub mod Join
pub mod Answer
pub mod Undo
pub mod inner
