-- Items in one track on lines: the one line that an item sees, what it makes of it, and an item by its part. Assumes nothing.
use mathlib.Core.Path.{◌≡◌, ap, ◌∙◌}
use mathlib.Core.List.{List, [], ◌∷◌, map}
use Prim.Native.Nat.{ℕ, ◌≤◌, ◌<◌}
use native.Mathlib.Omega.{arith}
use lib.ListN.{length, get_or, take, drop, set}
use Rattle.laws.specs.Lists.{All, all-at, in_turn}
use Rattle.rounds.specs.Rule.{most_tracks}
use Rattle.kinds.specs.declared.constraint.Constraint.{Constraint}
use Rattle.lines.specs.declared.line.Line.{Line}
use Rattle.lines.specs.declared.measured.Measured.{Measured}
use Rattle.lines.specs.Rule.{settled, with_item, with_item_at, singles}
use Rattle.lines.specs.Fits.{LineFits, LinesFit, MeasuredFits, MeasuredFit}
use Rattle.lines.proofs.Fits.{with-item-fits, singles-fit}
use Rattle.spans.proofs.Parts.{part-one, change-set}

-- the part of one line
module _ (lines : List Line) (t n : ℕ) (d : Line) (h : t < length lines) (e : n ≡ 1) where
  pub one_line : take n (drop t lines) ≡ get_or lines t d ∷ []
  one_line = rw e (part-one t lines d h)

  pub one-few : length (take n (drop t lines)) ≤ most_tracks
  one-few = let one : length (take n (drop t lines)) ≡ 1 = ap length one_line in omega arith

  pub one-fits : LinesFit lines → LinesFit (take n (drop t lines))
  unfolding All
  one-fits f = rw one_line (all-at LineFits lines t d f h, tt)

-- the line v stored for an item
module _ (c : Constraint) (item : Measured) (lines : List Line) (v d : Line) (o : v ≡ with_item c item (get_or lines item.start d)) where
  pub item-taken : item.start < length lines → LinesFit lines → MeasuredFits (length lines) item
      → (set lines item.start v ≡ with_item_at c item lines) × LinesFit (set lines item.start v)
  item-taken h f g =
      let e : set lines item.start v ≡ with_item_at c item lines = change-set (with_item c item) item.start lines v d h o in
      (e, rw e (with-item-fits c (length lines) item lines g f))

-- all items taken, then the lines settled
pub singles-made : (c : Constraint) (n : ℕ) (is : List Measured) (ls taken out : List Line) → taken ≡ in_turn (with_item_at c) is ls
    → out ≡ map settled taken → MeasuredFit n is → LinesFit ls → (out ≡ singles c is ls) × LinesFit out
unfolding singles
singles-made c n is ls taken out t o f g =
    let e : out ≡ singles c is ls = o ∙ ap (map settled) t in
    (e, rw e (singles-fit c n is ls f g))
