pub mod Room
pub mod Apart
