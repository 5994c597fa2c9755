pub mod Shapes
pub mod Sizes
