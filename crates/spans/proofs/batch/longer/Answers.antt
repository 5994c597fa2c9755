-- `longer` takes the batches in rising span. Assumes nothing.
use mathlib.Core.Path.{◌≡◌, ap, ◌∙◌}
use mathlib.Core.List.{List, []}
use Prim.Native.Nat.{ℕ, suc, ◌+◌, ◌-◌, ◌≤◌}
use native.Mathlib.Omega.{arith}
use lib.ListN.{length, get_or}
use Rattle.lines.specs.declared.measured.Measured.{Measured}
use Rattle.letters.specs.declared.batch.Batch.TheVariants.{OfSpan}
use Rattle.letters.specs.Batches.{batched_in}
use Rattle.spans.proofs.Parts.{up_turn, up-end}
use Rattle.spans.proofs.batch.longer.Goals as goal

pub loop-k-preserved : goal.loop-k-preserved
loop-k-preserved c =
    let high : c.loop-k.k ≤ length c.args.lines.now = c.loop-k-test.true in
    let n : length c.args.lines.now + 1 - c.loop-k.k ≡ suc (length c.args.lines.now + 1 - (c.loop-k.k + 1)) = omega (arith, high) in
    record {
      working = c.batched.ensures.1;
      left = up_turn (λ (j : ℕ). batched_in OfSpan c.args.constraint (get_or c.args.batches.now j [])) c.loop-k.k (length c.args.lines.now + 1 - c.loop-k.k) (length c.args.lines.now + 1 - (c.loop-k.k + 1)) c.loop-k.lines _ _ n c.loop-k.invariant.left (c.batched.ensures.0 ∙ ap (λ (is : List Measured). batched_in OfSpan c.args.constraint is c.loop-k.lines) c.batch.ensures);
      calm = c.batched.ensures.2;
    }

pub returns : goal.returns
returns c = (
  up-end (λ (j : ℕ). batched_in OfSpan c.args.constraint (get_or c.args.batches.now j [])) c.loop-k.k (length c.args.lines.now + 1 - c.loop-k.k) c.loop-k.lines _ (omega (arith, c.loop-k-test.false)) c.loop-k.invariant.left,
  c.loop-k.invariant.working,
  c.loop-k.invariant.calm,
)

pub returns-2 : goal.returns-2
returns-2 c =
    let high : c.loop-k.k ≤ length c.args.lines.now = c.loop-k-test.true in
    let n : length c.args.lines.now + 1 - c.loop-k.k ≡ suc (length c.args.lines.now + 1 - (c.loop-k.k + 1)) = omega (arith, high) in
    let turn =
    up_turn (λ (j : ℕ). batched_in OfSpan c.args.constraint (get_or c.args.batches.now j [])) c.loop-k.k (length c.args.lines.now + 1 - c.loop-k.k) (length c.args.lines.now + 1 - (c.loop-k.k + 1)) c.loop-k.lines _ _ n c.loop-k.invariant.left (c.batched.ensures.0 ∙ ap (λ (is : List Measured). batched_in OfSpan c.args.constraint is c.loop-k.lines) c.batch.ensures) in (
      up-end (λ (j : ℕ). batched_in OfSpan c.args.constraint (get_or c.args.batches.now j [])) (c.loop-k.k + 1) (length c.args.lines.now + 1 - (c.loop-k.k + 1)) c.batched.new.lines _ (omega arith) turn,
      c.batched.ensures.1,
      c.batched.ensures.2,
    )
