-- The laws of what a sheet says. A function's own proof stands in the folder of its name.

-- a row says the sheet's track, and the one that is sized
pub mod Resolved
-- where the axis is read
pub mod Axes
