-- The laws of the domain. A function's own proof stands in the folder of its name.

-- a float that passes a comparison
pub mod NoNan
-- floats that are f32
pub mod F32
-- numbers looked through in order, faults, and lengths
pub mod Outside
