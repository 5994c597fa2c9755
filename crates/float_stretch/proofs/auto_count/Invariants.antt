-- The loop of `auto_count`: what it keeps true.
use mathlib.Core.Path.{◌≡◌}
use Prim.Native.Nat.{◌+◌, ◌≤◌}
use lib.ListN.{drop}
use Rattle.laws.specs.Marks.{number}
use Rattle.float_stretch.proofs.auto_count.Given as goal

abbrev pub invariant-loop-auto : goal.invariant-loop-auto
invariant-loop-auto l = (l.count ≤ l.auto-index) × (l.count + number (drop l.auto-index l.autos) ≡ number l.autos)
