-- `spread` takes the longer spans, the last batch and the missing limits. Assumes nothing.
use borrow.Author.Rules.{rules}
use mathlib.Core.Path.{◌≡◌, ap, ◌∙◌}
use mathlib.Core.List.{List, []}
use Prim.Native.Nat.{ℕ}
use lib.ListN.{length, get_or}
use Rattle.lines.specs.declared.measured.Measured.{Measured}
use Rattle.lines.specs.Rule.{missing}
use Rattle.lines.specs.Chains.{fr_batch}
use Rattle.letters.specs.declared.batch.Batch.TheVariants.{Last}
use Rattle.letters.specs.Batches.{batched_in}
use Rattle.letters.proofs.Shared.{zeros-as}
use Rattle.spans.specs.Work.{longer_lines}
use Rattle.content.proofs.Contents.{spread-made}
use Rattle.content.proofs.spread.Goals as goal

pub returns : goal.returns
returns c =
    let same : length c.longer.new.lines ≡ length c.args.lines.now = search rules in
    let at : c.fr_batch.result ≡ fr_batch (length c.args.lines.now) = c.fr_batch.ensures ∙ ap fr_batch same in
    let last = c.batch-last.ensures ∙ ap (λ (k : ℕ). get_or c.args.batches.now k []) at in
    let m = spread-made c.args.constraint c.batch-last.result _ _ _ _ c.longer.ensures.0 c.batched.ensures.0 c.batched.ensures.1.fit c.fill_missing.ensures in (
      m.0 ∙ ap (λ (is : List Measured). missing (batched_in Last c.args.constraint is (longer_lines c.args.constraint c.args.batches.now c.args.lines.now))) last,
      m.1,
      zeros-as {m = length c.batched.new.lines} {n = length c.args.lines.now} c.batched.ensures.1.none (search rules),
    )
