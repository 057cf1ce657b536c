pub mod Bf16
pub mod Half
pub mod Root
pub mod Packed
pub mod Laws
