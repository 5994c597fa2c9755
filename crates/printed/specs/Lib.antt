pub mod Rule
pub mod Putting
pub mod Answer
