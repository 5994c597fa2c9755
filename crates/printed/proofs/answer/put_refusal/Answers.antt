-- `put_refusal`: its pieces one behind another. Assumes nothing.
use mathlib.Core.List.{append_assoc}
use native.Mathlib.Omega.{arith}
use Rattle.printed.proofs.Joined.{putting-then, putting-as}
use Rattle.printed.proofs.answer.put_refusal.Goals as goal

pub returns : goal.returns
returns c =
    putting-as (omega arith) (simp append_assoc)
    (putting-then (omega arith) (putting-then (omega arith) (putting-then (omega arith) c.put_word-behind_word.ensures c.put_number-behind_number.ensures) c.put_word-before_place.ensures) c.put_cell.ensures)
