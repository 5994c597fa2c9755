-- The laws of the spans. A function's own proof stands in the folder of its name.

-- one line of a list, numbers going up
pub mod Parts
-- step 2
pub mod OneTrack
-- step 3: one item, one letter, one batch
pub mod Planned
pub mod Raised
-- lines between letters and batches
pub mod Calm
