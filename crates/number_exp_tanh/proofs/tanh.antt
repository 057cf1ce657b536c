pub mod Near
pub mod Above
