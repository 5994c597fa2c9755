-- `put_name`, byte by byte: the bytes so far are shown. Assumes nothing.
use mathlib.Core.Path.{refl}
use mathlib.Core.List.{flat_map}
use native.Mathlib.Omega.{arith}
use Rattle.printed.proofs.Joined.{putting-then, putting-none, putting-as}
use Rattle.printed.proofs.Shown.{name-turn}
use Rattle.printed.proofs.message.put_name.Goals as goal

pub loop-byte-init : goal.loop-byte-init
unfolding flat_map
loop-byte-init c = putting-as (omega arith) refl (putting-none c.args.at c.args.into.now)

pub loop-byte-preserved : goal.loop-byte-preserved
loop-byte-preserved c = putting-as (omega arith) (name-turn c.args.name.now c.loop-byte.byte-index (omega arith)) (putting-then (omega (arith, c.requires)) c.loop-byte.invariant c.put_shown-next.ensures)
