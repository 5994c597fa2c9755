-- The laws of what is spanned. A function's own proof stands in the folder of its name.

-- a look at the rows that are spanned
pub mod Rows
