-- The laws of the sheet, from the ground up. A function's own proof stands in the folder of its name.

-- how the code looks for faults, and what a look learns: each row has its length
pub mod Looks
pub mod Looked
-- a section that stands at a place
pub mod SectionBytes
-- records read into lent rows
pub mod RowLoads
-- the faults and the size of a sheet's bytes, from its rows
pub mod Content
pub mod RowFaults
-- a walk over rows, and a sheet put part after part: what the writer does, and that it is the call
pub mod RowWalks
pub mod SheetPut
pub mod WriteCall
-- what a sheet without fault has, and that it and its bytes give each other back
pub mod Accepted
pub mod RoundTrip
-- few counts, for who lends rows
pub mod Few
-- the call that reads; and what an answer of a call says
pub mod ReadCall
pub mod Told
-- the rule at work on one sheet
pub mod Example
-- bytes that agree so far, and that what decides a sheet's answer is at its front
pub mod Same
pub mod Front
-- bytes before a sheet do not matter
pub mod From
-- what stands behind the space does not know of it, and sheets that differ in their axis alone
pub mod Behind
pub mod Axes
-- where a sheet ends, from its counts alone
pub mod Ends
-- a sheet's own bytes are never refused with 6
pub mod Numbers
-- an answer is the only one that tells what it tells
pub mod Unique
