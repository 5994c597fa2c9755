pub mod ByFactor
pub mod Rule
pub mod Fr
pub mod Lines
pub mod Parts
pub mod Fits
pub mod Chains
