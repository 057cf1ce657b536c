pub mod Steps
pub mod Limited
