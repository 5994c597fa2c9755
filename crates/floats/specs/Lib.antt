pub mod Rule
pub mod Rust
pub mod Answer
