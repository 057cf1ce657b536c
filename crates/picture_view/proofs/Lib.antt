pub mod Known
pub mod Exact
pub mod Columns
pub mod Written
pub mod Views
