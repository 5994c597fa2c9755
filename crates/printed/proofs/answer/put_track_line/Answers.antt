-- `put_track_line`: its three cells one behind another. Assumes nothing.
use mathlib.Core.List.{append_assoc}
use native.Mathlib.Omega.{arith}
use Rattle.printed.proofs.Joined.{putting-then, putting-as}
use Rattle.printed.proofs.answer.put_track_line.Goals as goal

pub returns : goal.returns
returns c =
    putting-as (omega arith) (simp append_assoc)
    (putting-then (omega arith) (putting-then (omega arith) c.put_cell-behind_track.ensures c.put_cell-behind_base.ensures) c.put_cell.ensures)
