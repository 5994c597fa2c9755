pub mod Count
pub mod Answers
