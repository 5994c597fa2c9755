-- The laws of the checks, from the ground up. A function's own proof stands in the folder of its name.

-- the lowest record at fault, and a search for it
pub mod LowestRecord
pub mod LowestWalk
-- the row of checks
pub mod CheckRow
-- what no fault gives
pub mod Sound
-- an answer is the only one that tells what it tells
pub mod Unique
-- the rule at work
pub mod Example
