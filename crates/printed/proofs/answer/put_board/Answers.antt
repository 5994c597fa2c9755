-- `put_board`: the first line, then those of the tracks. Assumes nothing.
use native.Mathlib.Omega.{arith}
use Rattle.printed.proofs.Joined.{putting-then}
use Rattle.printed.proofs.answer.put_board.Goals as goal

pub returns : goal.returns
returns c = putting-then (omega arith) c.put_board_line-behind_line.ensures c.put_track_lines.ensures
