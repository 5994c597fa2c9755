-- The laws of a layout. A function's own proof stands in the folder of its name.

-- the expansion space is within the limit of a space
pub mod Expansion
-- a layout, case by case as the code goes
pub mod LaidOut
-- where both axes give one board, and a board that they size otherwise
pub mod SameBoard
pub mod Example
