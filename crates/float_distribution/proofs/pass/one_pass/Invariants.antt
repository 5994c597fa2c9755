-- The loop of `one_pass`: what it keeps true.
use mathlib.Core.Path.{◌≡◌}
use Rattle.laws.specs.Turns.{turns}
use Rattle.float_distribution.specs.Distribution.{left, pass_step}
use Rattle.float_distribution.specs.Parts.{in_lists}
use Rattle.float_distribution.proofs.pass.one_pass.Given as goal

abbrev pub invariant-loop-i : goal.invariant-loop-i
invariant-loop-i l = left l.rest l.tracks ≡ turns (pass_step (in_lists l.parts) l.share) l.i (left l.space l.initial.tracks)
