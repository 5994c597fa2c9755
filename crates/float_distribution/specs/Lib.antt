pub mod Distribution
pub mod Parts
