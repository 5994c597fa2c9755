-- The laws behind the agreement, and the theorems.

-- numbers in the domain, and the named ones, are clear
pub mod Accepted
pub mod Named
-- sums, differences and quotients of such numbers
pub mod Sums
pub mod Differences
pub mod Shares
-- turns that some places take
pub mod Places
-- what holds at each pass of the distribution
pub mod Kept
pub mod Parts
pub mod Rooms
pub mod Growing
-- the theorems
pub mod FrSize
pub mod Gutter
pub mod Limits
pub mod Distribution
pub mod Maximised
-- some minimum and maximum keep Rust's documentation
pub mod Exists
