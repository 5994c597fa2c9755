-- The laws of the fill on rests, from the ground up. A function's own proof stands in the folder of its name.

-- who takes the odd dots, and what the marked rests lose
pub mod Odd
pub mod OpenMarks
-- a turn of each loop, and a round on the rests
pub mod Turns
pub mod RestRounds
-- one level for all
pub mod Level
-- the rests and the published rule go together
pub mod Caps
pub mod Tied
-- for who fills rests of his own
pub mod Fresh
