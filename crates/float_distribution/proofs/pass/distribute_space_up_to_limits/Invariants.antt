-- The loop of `distribute_space_up_to_limits`: what it keeps true.
use mathlib.Core.Path.{◌≡◌}
use Prim.Native.Nat.{◌-◌}
use Rattle.float_distribution.specs.Distribution.{left, passes}
use Rattle.float_distribution.specs.Parts.{in_lists}
use Rattle.float_distribution.proofs.pass.distribute_space_up_to_limits.Given as goal

abbrev pub invariant-loop : goal.invariant-loop
invariant-loop l = passes (in_lists l.parts) (l.most - l.counter) (left l.rest l.tracks) ≡ passes (in_lists l.parts) l.most (left l.space l.initial.tracks)
