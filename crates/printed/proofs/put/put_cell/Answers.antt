-- `put_cell`: the number, then the byte. Assumes nothing.
use native.Mathlib.Omega.{arith}
use Rattle.printed.proofs.Joined.{putting-then}
use Rattle.printed.proofs.put.put_cell.Goals as goal

pub returns : goal.returns
returns c = putting-then (omega (arith, c.requires)) c.put_number-next.ensures c.put_word.ensures
