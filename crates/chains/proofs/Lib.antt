-- The laws of the batches. A function's own proof stands in the folder of its name.

-- an item's batch
pub mod Numbers
-- a turn of the gathering
pub mod Turns
-- for who takes the batches in turn
pub mod Batches
