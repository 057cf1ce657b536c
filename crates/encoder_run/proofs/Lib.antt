pub mod Merges
pub mod Projects
pub mod Embeds
pub mod Runs
pub mod Ready
pub mod Expands
