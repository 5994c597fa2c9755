pub mod Domain
pub mod Answer
