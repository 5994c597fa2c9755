pub mod Rule
pub mod Fits
pub mod Answer
