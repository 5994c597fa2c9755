-- `load_first` writes each cap twice, front to back: those written, and those of the lines still to come, are all. Assumes
-- nothing.
use borrow.Author.Rules.{rules}
use mathlib.Core.Path.{ap₂, ◌∙◌}
use mathlib.Core.Bool.{Bool, cond}
use mathlib.Core.List.{List}
use Prim.Native.Nat.{ℕ, ◌+◌}
use Rattle.laws.specs.Walk.{store_step, store-end}
use Rattle.rounds.specs.Rule.{Room}
use Rattle.rounds.specs.Rests.{cap_in}
use Rattle.lines.specs.Rule.{first_track}
use Rattle.letters.specs.Letters.{letter_of}
use Rattle.letters.proofs.ShareSteps.{caps_from, caps-step, caps-end}
use Rattle.letters.proofs.share.load_first.Goals as goal

pub loop-i-preserved : goal.loop-i-preserved
loop-i-preserved c =
    let from = caps_from (first_track (letter_of c.args.letter)) c.args.dots c.args.lines.now in
    let one =
    c.cap_of-cap.ensures
    ∙ ap₂ (λ (affected : Bool) (room : Room). cond affected (cap_in c.args.dots room) 0) c.affected.ensures c.room.ensures in
    let turn = caps-step (first_track (letter_of c.args.letter)) c.args.dots c.args.lines.now c.loop-i.i _ _ (search rules) one in (
      store_step c.loop-i.gains c.loop-i.i (λ (_ : List ℕ). from c.loop-i.i) (λ (_ : List ℕ). from (c.loop-i.i + 1)) _ 0 _ (search rules) turn c.loop-i.invariant.0,
      store_step c.loop-i.rests c.loop-i.i (λ (_ : List ℕ). from c.loop-i.i) (λ (_ : List ℕ). from (c.loop-i.i + 1)) _ 0 _ (search rules) turn c.loop-i.invariant.1,
    )

pub returns : goal.returns
returns c =
    let from = caps_from (first_track (letter_of c.args.letter)) c.args.dots c.args.lines.now in
    let all = caps-end (first_track (letter_of c.args.letter)) c.args.dots c.args.lines.now c.loop-i.i (search rules) in (
      store-end c.loop-i.gains c.loop-i.i (λ (_ : List ℕ). from c.loop-i.i) _ (search rules) all c.loop-i.invariant.0,
      store-end c.loop-i.rests c.loop-i.i (λ (_ : List ℕ). from c.loop-i.i) _ (search rules) all c.loop-i.invariant.1,
    )
