pub mod Pool
pub mod Map
pub mod Calls
