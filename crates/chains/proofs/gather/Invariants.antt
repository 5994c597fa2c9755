-- The loop of `gather`: what it keeps true.
use mathlib.Core.List.{map}
use Rattle.kinds.specs.Kinds.{track_of}
use Rattle.chains.proofs.Turns.{Chained}
use Rattle.chains.proofs.gather.Given as goal

abbrev pub invariant-loop-i : goal.invariant-loop-i
invariant-loop-i l = Chained (map track_of l.tracks) l.items l.heads l.nexts l.i
