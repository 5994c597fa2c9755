-- `put_message`: its pieces one behind another. Assumes nothing.
use mathlib.Core.List.{append_assoc}
use native.Mathlib.Omega.{arith}
use Rattle.printed.proofs.Joined.{putting-then, putting-as}
use Rattle.printed.proofs.message.put_message.Goals as goal

pub returns : goal.returns
returns c =
    putting-as (omega arith) (simp append_assoc)
    (putting-then (omega arith) (putting-then (omega arith) (putting-then (omega arith) c.put_word-opened.ensures c.put_name-named.ensures) c.put_word-closed.ensures) c.put_word.ensures)
