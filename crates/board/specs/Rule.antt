-- The board: a sheet's bytes and lent sizes in, sizes or a refusal out. The order of refusals is the build paper's table: 1 to 5 of
-- the sheet, and of what it says the layout. Both have their own pages. It assumes nothing of the code and it computes.
use Rattle.std.specs.Prelude.{ℕ, List, map}
use Rattle.kinds.specs.Kinds.{Row, item_of}
use Rattle.sheet_kinds.specs.Kinds.{space_of, sheet_track_of}
use Rattle.sheet.specs.Rule.{Fault, fine, fault, Sheet, sheet_fault, sheet_at}
use Rattle.layout.specs.Rule.{layout_call}
pub use Rattle.layout.specs.Rule.{BoardTold, board, refused, BoardOutcome, board_outcome}

-- what a sheet says, laid out: 6, then 7 to 10, then the sizes
abbrev pub sheet_layout : Sheet → List Row → BoardOutcome
sheet_layout sheet sizes = layout_call (space_of sheet.space) (map sheet_track_of sheet.tracks) (map item_of sheet.items) sizes

-- 1 to 5 come before it
abbrev pub board_as : Fault → Sheet → List Row → BoardOutcome
board_as fine sheet sizes = sheet_layout sheet sizes
board_as (fault number place) sheet sizes = board_outcome (refused number place) sizes

unfoldable pub board_call : List ℕ → List Row → BoardOutcome
board_call bytes sizes = board_as (sheet_fault bytes) (sheet_at bytes) sizes
