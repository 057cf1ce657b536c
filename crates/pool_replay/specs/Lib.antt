pub mod Run
pub mod Record
