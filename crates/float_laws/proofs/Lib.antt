pub mod Grains
pub mod Order
pub mod Whole
pub mod Agree
pub mod Clear
pub mod Domain
