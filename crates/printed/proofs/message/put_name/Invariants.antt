-- The loop of `put_name`: the bytes so far are shown.
use mathlib.Core.List.{flat_map}
use Prim.Native.Nat.{◌*◌}
use lib.ListN.{take}
use Rattle.printed.specs.Rule.{shown}
use Rattle.printed.specs.Putting.{Putting}
use Rattle.printed.proofs.message.put_name.Given as goal

abbrev pub invariant-loop-byte : goal.invariant-loop-byte
invariant-loop-byte l = Putting (4 * l.byte-index) l.at (flat_map shown (take l.byte-index l.name)) l.initial.into l.into l.next
