pub mod Described
pub mod Sums
pub mod Filled
