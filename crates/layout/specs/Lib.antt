pub mod Rule
pub mod Answer
