-- `tally` writes the totals so far, then adds a line: those written and those to come are all. Assumes nothing.
use borrow.Author.Rules.{rules}
use mathlib.Core.Path.{◌≡◌, sym, ap, ◌∙◌}
use Prim.Native.Nat.{ℕ, ◌+◌}
use lib.ListN.{length, set, get_or}
use Rattle.lines.proofs.NoLine.{no_line}
use Rattle.letters.specs.Totals.{totals}
use Rattle.letters.proofs.Tallies.{tally-step, tally-end}
use Rattle.letters.proofs.totals.tally.Goals as goal

pub loop-i-preserved : goal.loop-i-preserved
loop-i-preserved c = (
  search rules,
  search rules,
  tally-step c.args.lines.now c.loop-i.sums c.loop-i.i c.loop-i.so_far _ (search rules) c.loop-i.invariant.2 _ _ (search rules) (ap (λ (n : ℕ). totals (c.loop-i.so_far.bases + (get_or c.args.lines.now c.loop-i.i no_line).base) (c.loop-i.so_far.limits + n)) c.limit_size.ensures),
)

pub returns : goal.returns
returns c =
    let e : c.loop-i.i ≡ length c.args.lines.now = search rules in
    ap (λ (k : ℕ). set c.loop-i.sums k c.loop-i.so_far) (sym e)
    ∙ tally-end c.args.lines.now c.loop-i.sums c.loop-i.i c.loop-i.so_far _ (search rules) c.loop-i.invariant.2 (search rules) (search rules)
