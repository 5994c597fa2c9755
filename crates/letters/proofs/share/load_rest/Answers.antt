-- `load_rest` writes each cap twice, in the rests and on top of the gains, front to back: those written, and those of the lines
-- still to come, are all. Assumes nothing.
use borrow.Author.Rules.{rules}
use mathlib.Core.Path.{ap, ap₂, ◌∙◌}
use mathlib.Core.Bool.{Bool, cond}
use mathlib.Core.List.{List}
use Prim.Native.Nat.{ℕ, ◌+◌}
use lib.ListN.{get_or}
use Rattle.laws.specs.Walk.{store_step, store-end, same_here, same_next}
use Rattle.rounds.specs.Rule.{Room}
use Rattle.rounds.specs.Rests.{cap_in, cap_of}
use Rattle.letters.specs.Letters.{letter_of}
use Rattle.letters.specs.Shares.{rest_of}
use Rattle.lines.proofs.NoLine.{no_line}
use Rattle.laws.specs.Lists.{all-at}
use Rattle.lines.specs.Fits.{LineFits}
use Rattle.letters.proofs.ShareSteps.{rest_caps_from, rest-caps-step, rest-caps-end, capped_from, capped-step, capped-nil}
use Rattle.letters.proofs.Shared.{rest-cap-le}
use Rattle.letters.proofs.share.load_rest.Goals as goal

pub overflow_add-gains : goal.overflow_add-gains
overflow_add-gains c =
    let now = get_or c.loop-i.gains c.loop-i.i 0 in
    let one =
    c.cap_of-cap.ensures
    ∙ ap₂ (λ (takes : Bool) (room : Room). cond takes (cap_in c.args.dots room) 0) c.takes_rest.ensures c.rest_room.ensures in
    let same = same_here c.loop-i.gains c.args.gains.now c.loop-i.i c.loop-i.invariant.0 0 in
    let few = c.requires.2 c.loop-i.i in
    let le = rest-cap-le c.args.letter c.args.takers_only c.args.dots now (get_or c.args.lines.now c.loop-i.i no_line) c.requires.1 (all-at LineFits c.args.lines.now c.loop-i.i no_line c.requires.3 (search rules)) in
    search rules

pub loop-i-preserved : goal.loop-i-preserved
loop-i-preserved c =
    let now = get_or c.loop-i.gains c.loop-i.i 0 in
    let one =
    c.cap_of-cap.ensures
    ∙ ap₂ (λ (takes : Bool) (room : Room). cond takes (cap_in c.args.dots room) 0) c.takes_rest.ensures c.rest_room.ensures in
    let same = same_here c.loop-i.gains c.args.gains.now c.loop-i.i c.loop-i.invariant.0 0 in
    let capped = capped_from (letter_of c.args.letter) c.args.takers_only c.args.dots c.args.lines.now in
    let from = rest_caps_from (letter_of c.args.letter) c.args.takers_only c.args.dots c.args.lines.now c.args.gains.now in
    let at = one ∙ ap (λ (g : ℕ). cap_of c.args.dots (rest_of (letter_of c.args.letter) c.args.takers_only (get_or c.args.lines.now c.loop-i.i no_line) g)) same in (
      same_next c.loop-i.gains c.args.gains.now c.loop-i.i c.loop-i.invariant.0 _,
      store_step c.loop-i.gains c.loop-i.i (capped c.loop-i.i) (capped (c.loop-i.i + 1)) _ 0 _ (search rules)
          (capped-step (letter_of c.args.letter) c.args.takers_only c.args.dots c.args.lines.now c.loop-i.i _ _ _ _ (search rules) (ap (λ (k : ℕ). now + k) one)) c.loop-i.invariant.1,
      store_step c.loop-i.rests c.loop-i.i (λ (_ : List ℕ). from c.loop-i.i) (λ (_ : List ℕ). from (c.loop-i.i + 1)) _ 0 _ (search rules)
          (rest-caps-step (letter_of c.args.letter) c.args.takers_only c.args.dots c.args.lines.now c.args.gains.now c.loop-i.i no_line _ (search rules) (search rules) at) c.loop-i.invariant.2,
    )

pub returns : goal.returns
returns c =
    let capped = capped_from (letter_of c.args.letter) c.args.takers_only c.args.dots c.args.lines.now in
    let from = rest_caps_from (letter_of c.args.letter) c.args.takers_only c.args.dots c.args.lines.now c.args.gains.now in (
      store-end c.loop-i.gains c.loop-i.i (capped c.loop-i.i) _ (search rules) (capped-nil (letter_of c.args.letter) c.args.takers_only c.args.dots c.args.lines.now c.loop-i.i) c.loop-i.invariant.1,
      store-end c.loop-i.rests c.loop-i.i (λ (_ : List ℕ). from c.loop-i.i) _ (search rules)
          (rest-caps-end (letter_of c.args.letter) c.args.takers_only c.args.dots c.args.lines.now c.args.gains.now c.loop-i.i (search rules)) c.loop-i.invariant.2,
    )
