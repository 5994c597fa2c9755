-- The laws of the flexible tracks, from the ground up. A function's own proof stands in the folder of its name.
pub mod Products
pub mod Sizes
pub mod Walks
pub mod Turns
pub mod Lines
pub mod Spans
pub mod Growth
pub mod Bounds
pub mod Rule
pub mod Expanded
