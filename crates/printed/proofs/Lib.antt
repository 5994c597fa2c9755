-- The laws of the text. A function's own proof stands in the folder of its name.

-- pieces one behind another
pub mod Joined
-- a number's digits, and its sign
pub mod Decimal
pub mod Signed
-- a name in a message
pub mod Shown
pub mod Visible
-- a turn of the loop over the tracks
pub mod Turns
-- the call as a whole
pub mod Call
pub mod MessageCall
pub mod Front
pub mod Within
pub mod Unique
