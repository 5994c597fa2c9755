pub mod Rule
pub mod Sound
