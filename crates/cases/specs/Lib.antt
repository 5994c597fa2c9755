pub mod Clean
pub mod Wanted
