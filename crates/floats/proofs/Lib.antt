pub mod Calls
pub mod Fine
pub mod Lengths
pub mod Order
pub mod Rust
pub mod Unique
