-- The loop of `search_over`: what it keeps true.
use mathlib.Core.Path.{◌≡◌}
use Prim.Native.Nat.{◌-◌}
use lib.ListN.{length}
use Rattle.lines.specs.Fr as fr-rule
use Rattle.lines.specs.Rule.{search_over}
use Rattle.flexible.specs.Flexes.{flexes}
use Rattle.flexible.proofs.search.search_over.Given as goal

abbrev pub invariant-loop : goal.invariant-loop
invariant-loop l = (length l.held ≡ length l.lines) × (fr-rule.search (l.end - l.counter) l.space (flexes l.lines l.held) ≡ search_over l.space l.lines)
