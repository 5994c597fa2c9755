-- the board, the fill, the sheet
pub mod Board
pub mod Fill
pub mod Sheets
-- the float routines
pub mod Words
pub mod Face
