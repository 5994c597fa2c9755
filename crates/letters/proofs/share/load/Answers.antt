-- `load` writes the caps, front to back: those written, and those of the tracks still to come, are all. Assumes nothing.
use borrow.Author.Rules.{rules}
use mathlib.Core.List.{List}
use Prim.Native.Nat.{ℕ, ◌+◌}
use Rattle.laws.specs.Walk.{store_step, store-end}
use Rattle.letters.specs.Shares.{track_in}
use Rattle.letters.proofs.ShareSteps.{caps_from, caps-step, caps-end}
use Rattle.letters.proofs.share.load.Goals as goal

pub loop-i-preserved : goal.loop-i-preserved
loop-i-preserved c =
    let from = caps_from (track_in c.args.share) c.args.dots c.args.lines.now in
    store_step c.loop-i.rests c.loop-i.i (λ (_ : List ℕ). from c.loop-i.i) (λ (_ : List ℕ). from (c.loop-i.i + 1)) _ 0 _ (search rules)
    (caps-step (track_in c.args.share) c.args.dots c.args.lines.now c.loop-i.i _ _ (search rules) c.cap.ensures) c.loop-i.invariant

pub returns : goal.returns
returns c =
    store-end c.loop-i.rests c.loop-i.i (λ (_ : List ℕ). caps_from (track_in c.args.share) c.args.dots c.args.lines.now c.loop-i.i) _ (search rules)
    (caps-end (track_in c.args.share) c.args.dots c.args.lines.now c.loop-i.i (search rules)) c.loop-i.invariant
