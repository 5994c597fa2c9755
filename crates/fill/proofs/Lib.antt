-- The laws of the call and of demand 3. A function's own proof stands in the folder of its name; what is said of the rests alone stands
-- in the crate rounds. In them as', ls, rs and gs are a call's affected, limited, rooms and gains (antt keeps `as` for itself), and cs its
-- caps.

-- a turn of each loop over the lists, and so the call keeps its promise
pub mod Turns
pub mod Call
-- the fill on rests: the gains, the rounds, the share
pub mod Fair
pub mod RoundCount
pub mod Share
-- demand 3 of the call's own lists, and that nothing else keeps it
pub mod Caps
pub mod Unique
pub mod Demand
