pub mod Rule
pub mod Demand
pub mod Answer
pub mod Tracks
