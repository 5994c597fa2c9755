pub mod Kinds
pub mod Rule
pub mod Axes
