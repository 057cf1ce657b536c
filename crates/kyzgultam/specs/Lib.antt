pub mod Face
pub mod Log
