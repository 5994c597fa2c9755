-- The loop of `fold`: what it keeps true.
use Rattle.float_distribution.specs.Parts.{in_lists, IsFold}
use Rattle.float_distribution.proofs.pass.fold.Given as goal

abbrev pub invariant-loop-i : goal.invariant-loop-i
invariant-loop-i g l = IsFold (goal.F-post g l.step) (in_lists l.parts) l.tracks l.i l.start l.sum
