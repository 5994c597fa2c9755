pub mod Fr
pub mod Flexes
