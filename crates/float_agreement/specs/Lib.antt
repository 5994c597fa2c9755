pub mod Rust
pub mod Inputs
