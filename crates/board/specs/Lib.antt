pub mod Rule
pub mod Store
pub mod Answer
