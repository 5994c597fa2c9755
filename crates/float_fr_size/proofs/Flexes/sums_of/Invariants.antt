-- The loop of `sums_of`: what it keeps true.
use mathlib.Core.Path.{◌≡◌}
use Rattle.laws.specs.Turns.{turns}
use Rattle.float_fr_size.specs.Fr.{add_step}
use Rattle.float_fr_size.specs.Flexes.{over}
use Rattle.float_fr_size.proofs.Flexes.sums_of.Given as goal

abbrev pub invariant-loop-i : goal.invariant-loop-i
invariant-loop-i l = l.sums ≡ turns (over add_step l.self l.fr) l.i l.initial.sums
