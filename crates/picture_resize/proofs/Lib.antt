pub mod Wholes
pub mod Same
pub mod Nears
pub mod Rounds
pub mod Ends
