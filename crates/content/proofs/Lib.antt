-- The laws of steps 1 to 4. A function's own proof stands in the folder of its name.
pub mod Contents
