pub mod Rule
pub mod Rooms
pub mod Rests
pub mod Found
