pub mod Falls
pub mod Scan
pub mod Made
pub mod Changed
