-- The loop of `slice_fault`: what it keeps true.
use mathlib.Core.Path.{◌≡◌}
use Prim.Native.Nat.{◌+◌}
use lib.ListN.{drop}
use Rattle.float_domain.specs.Domain.{numbers_of, outside_from}
use Rattle.float_domain.proofs.numbers.slice_fault.Given as goal

abbrev pub invariant-loop-i : goal.invariant-loop-i
invariant-loop-i l = outside_from (l.from + l.i) (numbers_of l.kind (drop l.i l.xs)) ≡ outside_from l.from (numbers_of l.kind l.xs)
