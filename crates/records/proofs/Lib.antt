-- The laws of a record's parts. A function's own proof stands in the folder of its name.

-- a count within its limit; numbers of two and four bytes; a look front to back; marks that are listed; a tag as the code takes it
pub mod Counts
pub mod LittleEndian
pub mod Looks
pub mod Marks
pub mod TagUses
