-- Lines that fit still fit after steps 1, 2 and 4, and there are as many of them. Assumes nothing.
use mathlib.Core.Path.{◌≡◌}
use mathlib.Core.Bool.{Bool, false}
use mathlib.Core.List.{List, [], ◌∷◌}
use Prim.Native.Nat.{ℕ, ◌≤◌, min, zero-le}
use native.Mathlib.Nat.{le_refl}
use native.Mathlib.Omega.{arith}
use lib.ListN.{length}
use Rattle.laws.specs.Lists.{All, in_turn}
use Rattle.laws.specs.Changes.{all-change, length-change, in-turn-keeps-all, in-turn-long}
use Rattle.laws.specs.Alls.{all-image}
use Rattle.kinds.specs.Kinds.{minimum_number, maximum_number}
use Rattle.kinds.specs.declared.constraint.Constraint.{Constraint}
use Rattle.kinds.specs.declared.constraint.Constraint.TheVariants.{Definite, MinContent, MaxContent}
use Rattle.kinds.specs.declared.track.Minimum.{Minimum}
use Rattle.kinds.specs.declared.track.Minimum.TheVariants as minimum
use Rattle.kinds.specs.declared.track.Maximum.{Maximum}
use Rattle.kinds.specs.declared.track.Maximum.TheVariants as maximum
use Rattle.kinds.specs.declared.track.Track.{Track}
use Rattle.kinds.specs.declared.item.ContributionKind.TheVariants as kind
use Rattle.spanned.specs.Rule.{most_size}
use Rattle.spanned.specs.Sound.{TrackFits, most_of}
use Rattle.std.specs.Prelude.{Some, None}
use Rattle.lines.specs.declared.line.Line.{Line}
use Rattle.lines.specs.declared.measured.Measured.{Measured}
use Rattle.lines.specs.Rule.{Limit, contribution_at, line, with_limit, cut, or_base, limit_size, start_base, start_limit, at_least, settled, start, maxima, limited, for_auto, base_asked, limit_with, limit_asked, with_item, with_item_at, singles, missing}
use Rattle.kinds.specs.Kinds.{amount_number}
use Rattle.lines.specs.Fits.{LineFits, LinesFit, MeasuredFits, MeasuredFit}

line-fits : (t : Track) (base : ℕ) (limit : Limit) (growable : Bool) → TrackFits t → base ≤ most_size → amount_number limit ≤ most_size → LineFits (line t base limit growable)
line-fits t base limit growable f b m = record { track = f; base = b; limit = m }

-- ---- one line

pub at-least-le : (base k : ℕ) (limit : Limit) → base ≤ k → amount_number limit ≤ k → amount_number (at_least base limit) ≤ k
at-least-le base k None b m = m
at-least-le base k (Some n) b m = omega arith

pub settled-fits : (l : Line) → LineFits l → LineFits (settled l)
settled-fits l f = record { track = f.track; base = f.base; limit = at-least-le l.base most_size l.limit f.base f.limit }

start-base-le : (m : Minimum) → minimum_number m ≤ most_size → start_base m ≤ most_size
start-base-le (minimum.Fixed n) h = h
start-base-le minimum.Auto h = h
start-base-le minimum.MinContent h = h
start-base-le minimum.MaxContent h = h

start-limit-le : (m : Maximum) → maximum_number m ≤ most_of m → amount_number (start_limit m) ≤ most_size
start-limit-le (maximum.Fixed n) h = h
start-limit-le maximum.Auto h = h
start-limit-le maximum.MinContent h = h
start-limit-le maximum.MaxContent h = h
start-limit-le (maximum.FitContent n) h = zero-le
start-limit-le (maximum.Fr n) h = zero-le

pub limit-size-le : (l : Line) → LineFits l → limit_size l ≤ most_size
limit-size-le l f = go l.limit f.limit
  where
    go : (m : Limit) → amount_number m ≤ most_size → or_base m l.base ≤ most_size
    go None h = f.base
    go (Some n) h = h

-- ---- what an item asks

cut-le : (limit : Limit) (n : ℕ) → cut limit n ≤ n
cut-le None n = le_refl n
cut-le (Some m) n = omega arith

pub limited-le : (n k : ℕ) (i : Measured) (ls : List Line) → contribution_at i kind.Minimum ≤ k → n ≤ k → limited n i ls ≤ k
limited-le n k i ls h l = let c = cut-le (maxima ls) n in omega arith

pub for-auto-le : (c : Constraint) (n : ℕ) (i : Measured) (ls : List Line) → MeasuredFits n i → for_auto c i ls ≤ most_size
for-auto-le (Definite d) n i ls f = f.contributions kind.Minimum
for-auto-le MinContent n i ls f = limited-le (contribution_at i kind.MinContent) most_size i ls (f.contributions kind.Minimum) (f.contributions kind.MinContent)
for-auto-le MaxContent n i ls f = limited-le (contribution_at i kind.MinContent) most_size i ls (f.contributions kind.Minimum) (f.contributions kind.MinContent)

base-asked-le : (c : Constraint) (n : ℕ) (i : Measured) (l : Line) (m : Minimum) → MeasuredFits n i → base_asked c i l m ≤ most_size
base-asked-le c n i l (minimum.Fixed k) f = zero-le
base-asked-le c n i l minimum.Auto f = for-auto-le c n i (l ∷ []) f
base-asked-le c n i l minimum.MinContent f = f.contributions kind.MinContent
base-asked-le c n i l minimum.MaxContent f = f.contributions kind.MaxContent

limit-with-le : (n : ℕ) (limit : Limit) → n ≤ most_size → amount_number limit ≤ most_size → amount_number (limit_with n limit) ≤ most_size
limit-with-le n None h k = h
limit-with-le n (Some m) h k = omega arith

limit-asked-le : (n : ℕ) (i : Measured) (limit : Limit) (m : Maximum) → MeasuredFits n i → amount_number limit ≤ most_size → amount_number (limit_asked i limit m) ≤ most_size
limit-asked-le n i limit (maximum.Fixed k) f h = h
limit-asked-le n i limit maximum.Auto f h = limit-with-le (contribution_at i kind.MaxContent) limit (f.contributions kind.MaxContent) h
limit-asked-le n i limit maximum.MinContent f h = limit-with-le (contribution_at i kind.MinContent) limit (f.contributions kind.MinContent) h
limit-asked-le n i limit maximum.MaxContent f h = limit-with-le (contribution_at i kind.MaxContent) limit (f.contributions kind.MaxContent) h
limit-asked-le n i limit (maximum.FitContent k) f h = let m = f.contributions kind.MaxContent in limit-with-le (min k (contribution_at i kind.MaxContent)) limit (omega arith) h
limit-asked-le n i limit (maximum.Fr k) f h = h

with-item-line-fits : (c : Constraint) (n : ℕ) (i : Measured) (l : Line) → MeasuredFits n i → LineFits l → LineFits (with_item c i l)
with-item-line-fits c n i l f g =
    let b = g.base in
    let a = base-asked-le c n i l l.track.minimum f in
    record { track = g.track; base = omega arith; limit = limit-asked-le n i l.limit l.track.maximum f g.limit }

-- ---- all lines

-- 1. Start
pub start_fits : (ts : List Track) → All TrackFits ts → LinesFit (start ts)
unfolding All start
start_fits [] f = f
start_fits (t ∷ ts) f = (
  settled-fits (line t (start_base t.minimum) (start_limit t.maximum) false)
      (line-fits t (start_base t.minimum) (start_limit t.maximum) false f.0 (start-base-le t.minimum f.0.0) (start-limit-le t.maximum f.0.1)),
  start_fits ts f.1,
)

-- 2. Items in one track
module _ (c : Constraint) (n : ℕ) where
  pub with-item-fits : (i : Measured) (ls : List Line) → MeasuredFits n i → LinesFit ls → LinesFit (with_item_at c i ls)
  with-item-fits i ls f g = all-change LineFits (with_item c i) (λ l k. with-item-line-fits c n i l f k) i.start ls g

  pub take-singles-fit : (is : List Measured) (ls : List Line) → MeasuredFit n is → LinesFit ls → LinesFit (in_turn (with_item_at c) is ls)
  take-singles-fit is ls f g = in-turn-keeps-all LinesFit (with_item_at c) (MeasuredFits n) with-item-fits is ls f g

  pub length-take-singles : (is : List Measured) (ls : List Line) → length (in_turn (with_item_at c) is ls) ≡ length ls
  length-take-singles is ls = in-turn-long (with_item_at c) (λ i on. length-change i.start (with_item c i) on) is ls

  pub singles-fit : (is : List Measured) (ls : List Line) → MeasuredFit n is → LinesFit ls → LinesFit (singles c is ls)
  unfolding singles
  singles-fit is ls f g = all-image LineFits settled LineFits settled-fits _ (take-singles-fit is ls f g)

-- 4. Missing limits
pub missing-fit : (ls : List Line) → LinesFit ls → LinesFit (missing ls)
unfolding missing
missing-fit ls f = all-image LineFits (λ (l : Line). with_limit l (Some (limit_size l))) LineFits (λ l g. record { track = g.track; base = g.base; limit = limit-size-le l g }) ls f
