-- The laws of the sizing. A function's own proof stands in the folder of its name.

-- the store, the sizes, the free space as 32 bits say it
pub mod Difference
-- steps 5 and 7, how far the bases go, and that every free space fits
pub mod Bases
pub mod Filled
pub mod FreeFits
-- steps 6 and 7, and the whole
pub mod Finished
pub mod WholeSizing
-- as many sizes as tracks
pub mod Counted
