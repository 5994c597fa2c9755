-- What a case wants: the answer in the words of the board's rule, and the sizes behind it. Assumes nothing.
use Rattle.std.specs.Prelude.{ℕ, Bool, true, false, List, ℤ, pos, neg_ℤ, Result, Ok, Err}
use Rattle.cases.specs.declared.wanted.Answer.{Answer}
use Rattle.cases.specs.declared.wanted.Refused.{Refused}
use Rattle.lines.specs.Rule.{FreeTold}
use Rattle.sizing.specs.Size.{free_told}
use Rattle.board.specs.Rule.{BoardTold, board, refused, BoardOutcome}
use Rattle.board_vectors.specs.declared.told.Told.{Told}

-- so many dots, below 0 where they are short
abbrev pub signed : Bool → ℕ → ℤ
signed true n = neg_ℤ (pos n)
signed false n = pos n

abbrev pub answer_as : Result Answer Refused → FreeTold → BoardTold
answer_as (Ok told) free = board told.first free told.second
answer_as (Err refusal) free = refused refusal.number refusal.place

abbrev pub told_as : Told → BoardTold
told_as t = answer_as t.wanted (free_told t.free)

abbrev pub left_as : Told → List (List ℕ) → BoardOutcome
left_as t sizes = record { told = told_as t; sizes = sizes }
