-- what reading with rows for every record leaves, and so the board
pub mod ReadBoard
-- answers that tell the same are the same
pub mod Unique
-- no board tells more than 256 tracks
pub mod Tracks
-- what decides the answer is at the front of the bytes
pub mod Front
-- where both axes give one board
pub mod SameBoard
