pub mod Passes
pub mod Lengths
