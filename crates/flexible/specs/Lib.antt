pub mod Flexes
