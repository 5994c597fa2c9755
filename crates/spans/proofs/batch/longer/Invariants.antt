-- The loop of `longer`: what it keeps true.
use mathlib.Core.Path.{◌≡◌}
use mathlib.Core.List.{[]}
use Prim.Native.Nat.{ℕ, ◌+◌, ◌-◌}
use lib.ListN.{length, get_or}
use Rattle.laws.specs.Lists.{in_turn, up_from}
use Rattle.letters.specs.declared.batch.Batch.TheVariants.{OfSpan}
use Rattle.letters.specs.Batches.{batched_in}
use Rattle.spans.specs.Work.{Working, Calm, longer_lines}
use Rattle.spans.proofs.batch.longer.Given as goal

abbrev pub invariant-loop-k : goal.invariant-loop-k
invariant-loop-k l =
    record {
      working : Working l.lines l.increases l.gains l.rests l.sums;
      left : in_turn (λ (j : ℕ). batched_in OfSpan l.constraint (get_or l.batches j [])) (up_from l.k (length l.initial.lines + 1 - l.k)) l.lines ≡ longer_lines l.constraint l.batches l.initial.lines;
      calm : Calm l.lines;
    }
