-- The loop of `base_total`: what it keeps true.
use mathlib.Core.Path.{◌≡◌}
use mathlib.Core.List.{map}
use Prim.Native.Nat.{ℕ, ◌+◌, ◌*◌, ◌≤◌}
use lib.ListN.{drop}
use Rattle.laws.specs.Sums.{sum}
use Rattle.lines.specs.declared.line.Line.{Line}
use Rattle.letters.specs.Letters.{most}
use Rattle.letters.proofs.totals.base_total.Given as goal

abbrev base : Line → ℕ
base l = l.base

abbrev pub invariant-loop-line : goal.invariant-loop-line
invariant-loop-line l = (l.total ≤ l.line-index * most)
    × (l.total + sum (map base (drop l.line-index l.lines)) ≡ sum (map base l.lines))
