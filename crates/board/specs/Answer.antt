-- The code's answers in the words of the rule: each refusal by the paper's number and place, and what the call leaves.
-- Assumes nothing.
use Rattle.std.specs.Prelude.{ℕ, List, Result, Ok, Err}
use Rattle.kinds.specs.Kinds.{Row}
use Rattle.records.specs.Answer as records
use Rattle.records.specs.declared.refusal.Refusal.TheVariants as refusals
use Rattle.sizing.specs.Size.{free_told}
use Rattle.layout.specs.Answer as layout
use Rattle.layout.specs.declared.Board.{Board}
use Rattle.layout.specs.declared.refusal.Refusal.TheVariants.{LentTooShort}
use Rattle.board.specs.Rule.{BoardTold, board, refused, BoardOutcome, board_outcome}
use Rattle.board.specs.declared.refusal.Refusal.{Refusal}
use Rattle.board.specs.declared.refusal.Refusal.TheVariants.{Sheet, Layout}

abbrev pub number_of : Refusal → ℕ
number_of (Sheet refusal) = records.number_of refusal
number_of (Layout refusal) = layout.number_of refusal

abbrev pub place_of : Refusal → ℕ
place_of (Sheet refusal) = records.place_of refusal
place_of (Layout refusal) = layout.place_of refusal

abbrev pub board_told : Result Board Refusal → BoardTold
board_told (Ok b) = board b.tracks (free_told b.free) b.rounds
board_told (Err refusal) = refused (number_of refusal) (place_of refusal)

abbrev pub board_leaves : Result Board Refusal → List Row → BoardOutcome
board_leaves answer sizes = board_outcome (board_told answer) sizes

-- ---- 6 has one name: a board lends its own rows, so a sheet never finds too few

abbrev pub own : Refusal → Refusal
own (Sheet (refusals.Short place)) = Sheet (refusals.Short place)
own (Sheet (refusals.BytesOver place)) = Sheet (refusals.BytesOver place)
own (Sheet (refusals.Count place)) = Sheet (refusals.Count place)
own (Sheet (refusals.Tag place)) = Sheet (refusals.Tag place)
own (Sheet (refusals.StrayNumber place)) = Sheet (refusals.StrayNumber place)
own (Sheet refusals.LentTooShort) = Layout LentTooShort
own (Layout refusal) = Layout refusal

abbrev pub own_answer : Result Board Refusal → Result Board Refusal
own_answer (Ok b) = Ok b
own_answer (Err refusal) = Err (own refusal)
