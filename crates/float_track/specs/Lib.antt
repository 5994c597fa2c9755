pub mod Track
pub mod Space
