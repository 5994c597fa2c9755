-- `apply` grows each line by its increase, front to back, and leaves no increase. Assumes nothing.
use borrow.Author.Rules.{rules}
use mathlib.Core.Path.{refl, ap, ◌∙◌}
use mathlib.Core.List.{List, zip_with}
use Prim.Native.Nat.{ℕ, ◌+◌}
use lib.ListN.{length, drop, replicate}
use Rattle.laws.specs.Walk.{store_step, store-end, same_here, same_next}
use Rattle.lines.specs.declared.line.Line.{Line}
use Rattle.letters.specs.Letters.{letter_of}
use Rattle.letters.proofs.ApplySteps.{grown-step, grown-nil, present-same}
use Rattle.letters.proofs.increase.apply.Goals as goal

pub grown-requires : goal.grown-requires
grown-requires c = present-same (letter_of c.args.letter).present _ _ _ _ (same_here c.loop-i.lines c.args.lines.now c.loop-i.i c.loop-i.invariant.0 _) (same_here c.loop-i.increases c.args.increases.now c.loop-i.i c.loop-i.invariant.1 0) (c.requires.fits c.loop-i.i _ (search rules))

pub loop-i-preserved : goal.loop-i-preserved
loop-i-preserved c =
    let grown = (letter_of c.args.letter).grown in (
      same_next c.loop-i.lines c.args.lines.now c.loop-i.i c.loop-i.invariant.0 _,
      same_next c.loop-i.increases c.args.increases.now c.loop-i.i c.loop-i.invariant.1 _,
      store_step c.loop-i.lines c.loop-i.i (λ (ls : List Line). zip_with grown ls (drop c.loop-i.i c.args.increases.now)) (λ (ls : List Line). zip_with grown ls (drop (c.loop-i.i + 1) c.args.increases.now)) _ _ _ (search rules)
          (grown-step grown _ _ c.args.increases.now c.loop-i.i _ (search rules) (c.grown.ensures ∙ ap (grown _) (same_here c.loop-i.increases c.args.increases.now c.loop-i.i c.loop-i.invariant.1 0))) c.loop-i.invariant.2,
      store_step c.loop-i.increases c.loop-i.i (λ (l : List ℕ). replicate (length l) 0) (λ (l : List ℕ). replicate (length l) 0) 0 0 _ (search rules) refl c.loop-i.invariant.3,
    )

pub returns : goal.returns
returns c = (
  store-end c.loop-i.lines c.loop-i.i (λ (ls : List Line). zip_with (letter_of c.args.letter).grown ls (drop c.loop-i.i c.args.increases.now)) _ (search rules) (grown-nil (letter_of c.args.letter).grown _) c.loop-i.invariant.2,
  store-end c.loop-i.increases c.loop-i.i (λ (l : List ℕ). replicate (length l) 0) _ (search rules) refl c.loop-i.invariant.3 ∙ ap (λ (n : ℕ). replicate n 0) c.requires.long,
)
