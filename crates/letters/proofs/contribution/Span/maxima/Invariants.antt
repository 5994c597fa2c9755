-- The loop of `maxima`: what it keeps true.
use mathlib.Core.Path.{◌≡◌}
use Prim.Native.Nat.{◌*◌, ◌≤◌}
use lib.ListN.{drop}
use Rattle.spanned.specs.Rule.{most_size}
use Rattle.lines.specs.Rule.{maxima}
use Rattle.letters.proofs.Steps.{plus}
use Rattle.letters.proofs.contribution.Span.maxima.Given as goal

abbrev pub invariant-loop-line : goal.invariant-loop-line
invariant-loop-line l = (l.sum ≤ l.line-index * most_size)
    × (plus l.sum (maxima (drop l.line-index l.self.lines.now)) ≡ maxima l.self.lines.now)
