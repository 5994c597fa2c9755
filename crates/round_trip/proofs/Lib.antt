-- bytes that are read and written back
pub mod Copies
-- a sheet that is written and read back
pub mod Carries
