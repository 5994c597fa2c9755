pub mod Gutters
