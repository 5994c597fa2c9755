-- the board, the sheet
pub mod Board
pub mod Sheets
-- the float routines
pub mod Told
