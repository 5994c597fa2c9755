-- The laws of the lines. A function's own proof stands in the folder of its name.

-- a slice of the lines, and a line past their end
pub mod Slices
pub mod NoLine
pub mod Parted
-- the chains of the batches
pub mod Chains
-- the share by factor, and the last batch
pub mod ByFactor
pub mod Increases
pub mod LastBatch
-- what every step keeps
pub mod Fits
pub mod Maximise
