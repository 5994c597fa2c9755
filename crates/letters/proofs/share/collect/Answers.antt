-- `collect` adds what each rest lost, front to back: the gains written, and those still to come, are all. Assumes nothing.
use borrow.Author.Rules.{rules}
use mathlib.Core.Path.{ap, ◌∙◌}
use Prim.Native.Nat.{ℕ, ◌+◌, ◌-◌}
use lib.ListN.{get_or}
use Rattle.laws.specs.Walk.{store_step, store-end, same_here, same_next}
use Rattle.rounds.specs.Rests.{cap_of}
use Rattle.letters.specs.Shares.{share_track}
use Rattle.lines.proofs.NoLine.{no_line}
use Rattle.letters.proofs.ShareSteps.{gained_from, gained-step, gained-nil, lost-at}
use Rattle.letters.proofs.share.collect.Goals as goal

pub overflow_add-gain : goal.overflow_add-gain
overflow_add-gain c =
    let now = get_or c.loop-i.gains c.loop-i.i 0 in
    let fits = c.requires.1 c.loop-i.i in
    let at = lost-at c.args.share c.args.dots c.args.lines.now c.args.gains.now c.args.rests.now c.loop-i.i no_line (search rules) (search rules) (search rules) in
    let same = same_here c.loop-i.gains c.args.gains.now c.loop-i.i c.loop-i.invariant.0 0 in
    let one = c.saturating_sub.ensures ∙ ap (λ (k : ℕ). k - get_or c.args.rests.now c.loop-i.i 0) c.cap-cap.ensures in
    let more = one ∙ ap (λ (g : ℕ). cap_of c.args.dots (share_track c.args.share (get_or c.args.lines.now c.loop-i.i no_line) g) - get_or c.args.rests.now c.loop-i.i 0) same in
    search rules

pub loop-i-preserved : goal.loop-i-preserved
loop-i-preserved c =
    let now = get_or c.loop-i.gains c.loop-i.i 0 in
    let one = c.saturating_sub.ensures ∙ ap (λ (k : ℕ). k - get_or c.args.rests.now c.loop-i.i 0) c.cap-cap.ensures in (
      same_next c.loop-i.gains c.args.gains.now c.loop-i.i c.loop-i.invariant.0 _,
      store_step c.loop-i.gains c.loop-i.i (gained_from c.args.share c.args.dots c.args.lines.now c.args.rests.now c.loop-i.i) (gained_from c.args.share c.args.dots c.args.lines.now c.args.rests.now (c.loop-i.i + 1)) _ 0 _ (search rules)
          (gained-step c.args.share c.args.dots c.args.lines.now c.args.rests.now c.loop-i.i _ _ _ _ (search rules) (search rules) (ap (λ (k : ℕ). now + k) one)) c.loop-i.invariant.1,
    )

pub returns : goal.returns
returns c =
    store-end c.loop-i.gains c.loop-i.i (gained_from c.args.share c.args.dots c.args.lines.now c.args.rests.now c.loop-i.i) _ (search rules)
    (gained-nil c.args.share c.args.dots c.args.lines.now c.args.rests.now c.loop-i.i) c.loop-i.invariant.1
