-- The loop of `remake`: what it keeps true.
use mathlib.Core.Path.{◌≡◌}
use mathlib.Core.List.{◌++◌, map}
use lib.ListN.{take, drop}
use Rattle.lines.specs.declared.line.Line.{Line}
use Rattle.lines.specs.Lines.{Makes}
use Rattle.lines.proofs.passes.remake.Given as goal

abbrev pub invariant-loop-line : goal.invariant-loop-line
invariant-loop-line g l =
    (made : Line → Line) → Makes (goal.F-post g l.make) made → take l.line-index l.lines ++ map made (drop l.line-index l.lines) ≡ map made l.initial.lines
