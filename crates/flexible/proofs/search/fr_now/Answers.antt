-- `fr_now` meets its contract. The loop's invariant: what is summed, and what is still to sum, are all. Assumes nothing.
use borrow.Author.Rules.{rules}
use mathlib.Core.Path.{◌≡◌, ap, ap₂, ◌∙◌}
use mathlib.Core.Bool.{false, cond}
use Prim.Native.Nat.{◌-◌}
use native.Mathlib.Omega.{arith}
use lib.ListN.{get_or}
use Rattle.lines.specs.Rule.{number}
use Rattle.lines.proofs.NoLine.{no_line}
use Rattle.lines.specs.Fr.{fr_of, held_size, open_factor, fr_now}
use Rattle.flexible.proofs.Walks.{sum_step, sum-end}
use Rattle.flexible.proofs.Sizes.{held-sizes-small, open-factors-small}
use Rattle.flexible.proofs.search.fr_now.Goals as goal
use Rattle.flexible.proofs.search.fr_now.Goals.{then-mark, else-mark, then-mark-2, else-mark-2}

pub overflow_add-sizes : goal.overflow_add-sizes
overflow_add-sizes c =
    let s = sum_step c.args.lines.now c.args.held.now c.loop-i.i no_line (search rules) (search rules) held_size in
    let m = held-sizes-small c.args.lines.now c.args.held.now c.requires in
    let is : c.if-mark.sizes ≡ cond (get_or c.args.held.now c.loop-i.i false) (get_or c.args.lines.now c.loop-i.i no_line).base 0 =
    elim c.if-mark.branch [ then-mark w ↦ rw w.if-mark.true w.sizes-is | else-mark w ↦ rw w.if-mark.false w.sizes-is ] in
    record { fits = omega (arith, is) }

pub overflow_add-factors : goal.overflow_add-factors
overflow_add-factors c =
    let s = sum_step c.args.lines.now c.args.held.now c.loop-i.i no_line (search rules) (search rules) open_factor in
    let m = open-factors-small c.args.lines.now c.args.held.now c.requires in
    let is : c.if-mark-2.factors ≡ cond (get_or c.args.held.now c.loop-i.i false) 0 (number (get_or c.args.lines.now c.loop-i.i no_line)) =
    elim c.if-mark-2.branch [ then-mark-2 w ↦ rw w.if-mark-2.true w.factors-is | else-mark-2 w ↦ rw w.if-mark-2.false (w.factors-is ∙ w.number.ensures) ] in
    record { fits = omega (arith, is) }

pub loop-i-preserved : goal.loop-i-preserved
loop-i-preserved c =
    let s = sum_step c.args.lines.now c.args.held.now c.loop-i.i no_line (search rules) (search rules) in
    let size : c.if-mark.sizes ≡ cond (get_or c.args.held.now c.loop-i.i false) (get_or c.args.lines.now c.loop-i.i no_line).base 0 =
    elim c.if-mark.branch [ then-mark w ↦ rw w.if-mark.true w.sizes-is | else-mark w ↦ rw w.if-mark.false w.sizes-is ] in
    let factor : c.if-mark-2.factors ≡ cond (get_or c.args.held.now c.loop-i.i false) 0 (number (get_or c.args.lines.now c.loop-i.i no_line)) =
    elim c.if-mark-2.branch [ then-mark-2 w ↦ rw w.if-mark-2.true w.factors-is | else-mark-2 w ↦ rw w.if-mark-2.false (w.factors-is ∙ w.number.ensures) ] in
    (omega (arith, size, s held_size), omega (arith, factor, s open_factor))

pub returns : goal.returns
unfolding fr_now
returns c =
    let s = sum-end c.args.lines.now c.args.held.now c.loop-i.i c.loop-i-test.false in
    ap₂ fr_of (c.saturating_sub.ensures ∙ ap (c.args.space -◌) (omega (arith, s held_size))) (c.max.ensures ∙ omega (arith, s open_factor))
