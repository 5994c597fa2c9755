pub mod Rule
pub mod Answer
pub mod Steps
