-- The code's answer in the words of the rule: each refusal by the paper's number and place, and what the call leaves. Assumes nothing.
use Rattle.std.specs.Prelude.{ℕ, List, Result, Ok, Err}
use Rattle.kinds.specs.Kinds.{Row}
use Rattle.checks.specs.Answer as checks
use Rattle.sizing.specs.Size.{free_told}
use Rattle.layout.specs.Rule.{BoardTold, board, refused, BoardOutcome, board_outcome}
use Rattle.layout.specs.declared.refusal.Refusal.{Refusal}
use Rattle.layout.specs.declared.refusal.Refusal.TheVariants.{LentTooShort, Record}
use Rattle.layout.specs.declared.Board.{Board}

abbrev pub number_of : Refusal → ℕ
number_of LentTooShort = 6
number_of (Record refusal) = checks.number_of refusal

abbrev pub place_of : Refusal → ℕ
place_of LentTooShort = 0
place_of (Record refusal) = checks.place_of refusal

abbrev pub layout_told : Result Board Refusal → BoardTold
layout_told (Ok b) = board b.tracks (free_told b.free) b.rounds
layout_told (Err refusal) = refused (number_of refusal) (place_of refusal)

abbrev pub layout_leaves : Result Board Refusal → List Row → BoardOutcome
layout_leaves answer sizes = board_outcome (layout_told answer) sizes
