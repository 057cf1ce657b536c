pub mod Divides
