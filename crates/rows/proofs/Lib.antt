-- The laws of rows, from the ground up. A function's own proof stands in the folder of its name.

-- what stands at a place
pub mod Stands
-- each tag of a row without fault is a byte
pub mod Listed
-- a record's bytes and its faults, part by part
pub mod RowBytes
pub mod RowFaults
-- a kind and its tag and number; a space, a track and an item and their rows
pub mod TagCases
pub mod KindRows
