-- The loop of `start`: what it keeps true.
use mathlib.Core.Path.{◌≡◌}
use mathlib.Core.List.{◌++◌, map}
use lib.ListN.{take, drop}
use Rattle.kinds.specs.Kinds.{track_of}
use Rattle.lines.specs.Rule.{start_line}
use Rattle.lines.proofs.passes.start.Given as goal

abbrev pub invariant-loop-i : goal.invariant-loop-i
invariant-loop-i l =
    take l.i l.lines ++ map start_line (map track_of (drop l.i l.tracks)) ≡ map start_line (map track_of l.tracks)
