pub mod Choices
pub mod Wanted
