pub mod Numbers
pub mod Sum
pub mod Whole
pub mod Std
