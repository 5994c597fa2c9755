-- The fr of a board is bounded: its dots by the space, and what they are divided by from both sides. Assumes nothing.
use mathlib.Core.Bool.{Bool, true, false, cond}
use mathlib.Core.List.{List, [], ◌∷◌, map}
use Prim.Native.Nat.{ℕ, zero, suc, ◌*◌, ◌≤◌, max}
use native.Mathlib.Nat.{le_trans}
use native.Mathlib.Omega.{arith}
use lib.Dec.{ltb}
use lib.ListN.{length, length-take, length-drop}
use Rattle.laws.specs.Lists.{some, keep, in_turn, All}
use Rattle.rounds.specs.Rule.{most_tracks, most_dots}
use Rattle.kinds.specs.Kinds.{constraint_number}
use Rattle.kinds.specs.declared.constraint.Constraint.{Constraint}
use Rattle.kinds.specs.declared.constraint.Constraint.TheVariants.{Definite, MinContent, MaxContent}
use Rattle.spanned.specs.Rule.{is_fr}
use Rattle.lines.specs.declared.line.Line.{Line}
use Rattle.lines.specs.declared.measured.Measured.{Measured}
use Rattle.lines.specs.declared.fr.Fr.{Fr}
use Rattle.kinds.specs.declared.item.ContributionKind.TheVariants as kind
use Rattle.lines.specs.Rule.{contribution_at, number, flex_of, bases, search_over, base_fr, bases_fr, item_fr, spanned}
use Rattle.lines.specs.Fr.{fr_of, no_fr, larger_fr, Flex, fr_now, short, hold, search}
use Rattle.lines.specs.Fits.{LineFits, LinesFit, MeasuredFits, MeasuredFit}
use Rattle.lines.proofs.Slices.{slice_fits}
use Rattle.flexible.specs.Flexes.{held_first, batch_fr, fr_over, FrBounds}
use Rattle.flexible.proofs.Sizes.{factor-fits, open-factors-le}
use Rattle.flexible.proofs.Turns.{flexes-first}
use Rattle.flexible.proofs.Lines.{fr_only}
use Rattle.flexible.proofs.Growth.{factors_of, factors-hold-le}

-- what both have, either has
cond_has : {A : Type 0} (P : A → Type 0) (b : Bool) (x y : A) → P x → P y → P (cond b x y)
cond_has P true x y p q = p
cond_has P false x y p q = q

-- ---- A search

-- what the search gives is bounded by what it starts from
record SearchBounds (space factors : ℕ) (fr : Fr) : Type 0 where
  dots : fr.dots ≤ space
  per : 1000 ≤ fr.per
  most : fr.per ≤ max 1000 factors

fr-now-bounds : (space factors : ℕ) (ts : List Flex) → factors_of ts ≤ factors → SearchBounds space factors (fr_now space ts)
unfolding fr_now
fr-now-bounds space factors ts h = record { dots = omega arith; per = omega arith; most = omega arith }

search-bounds : (n space factors : ℕ) (ts : List Flex) → factors_of ts ≤ factors → SearchBounds space factors (search n space ts)
unfolding search
search-bounds zero space factors ts h = fr-now-bounds space factors ts h
search-bounds (suc n) space factors ts h =
    cond_has (SearchBounds space factors) (some (short (fr_now space ts)) ts) (search n space (map (hold (fr_now space ts)) ts)) (fr_now space ts)
    (search-bounds n space factors (map (hold (fr_now space ts)) ts) (le_trans (factors-hold-le (fr_now space ts) ts) h))
    (fr-now-bounds space factors ts h)

pub search-over-bounds : (space : ℕ) (ls : List Line) → space ≤ most_dots → length ls ≤ most_tracks → LinesFit ls → FrBounds (search_over space ls)
unfolding search_over
search-over-bounds space ls d t f =
    let l : factors_of (map flex_of ls) ≤ 100000 * length ls = rw (flexes-first ls) at (open-factors-le ls (held_first ls) f) in
    let b = search-bounds (length ls) space 25600000 (map flex_of ls) (omega arith) in
    let dots = b.dots in
    let per = b.per in
    let most = b.most in
    record { fits = record { dots = omega arith; per = omega arith }; most = omega arith }

-- ---- The larger of two

pub no-fr-bounds : FrBounds no_fr
no-fr-bounds = record { fits = record { dots = omega arith; per = omega arith }; most = omega arith }

larger-bounds : (a b : Fr) → FrBounds a → FrBounds b → FrBounds (larger_fr a b)
larger-bounds a b p q = cond_has FrBounds (ltb (a.dots * b.per) (b.dots * a.per)) b a q p

-- ---- The fr of the bases and of a batch

base-bounds : (l : Line) (fr : Fr) → LineFits l → FrBounds fr → FrBounds (base_fr l fr)
base-bounds l fr f p =
    let b = f.base in
    let n = factor-fits l f in
    larger-bounds (fr_of l.base (max 1000 (number l))) fr (record { fits = record { dots = omega arith; per = omega arith }; most = omega arith }) p

bases-bounds-from : (ls : List Line) (fr : Fr) → LinesFit ls → FrBounds fr → FrBounds (in_turn base_fr (fr_only ls) fr)
unfolding All keep in_turn
bases-bounds-from [] fr a p = p
bases-bounds-from (l ∷ ls) fr a p =
    cond_has (λ (ks : List Line). FrBounds (in_turn base_fr ks fr)) (is_fr l.track) (l ∷ fr_only ls) (fr_only ls)
    (bases-bounds-from ls (base_fr l fr) a.1 (base-bounds l fr a.0 p))
    (bases-bounds-from ls fr a.1 p)

pub bases-fr-bounds : (ls : List Line) → LinesFit ls → FrBounds (bases_fr ls)
unfolding bases_fr
bases-fr-bounds ls a = bases-bounds-from ls no_fr a no-fr-bounds

module _ (ls : List Line) (t : length ls ≤ most_tracks) (f : LinesFit ls) where
  item-bounds : (n : ℕ) (i : Measured) (fr : Fr) → MeasuredFits n i → FrBounds fr → FrBounds (item_fr ls i fr)
  item-bounds n i fr m p =
      let c = m.contributions kind.MaxContent in
      let l : length (spanned i ls) ≤ most_tracks = simp (length-take, length-drop) (omega arith) in
      larger-bounds (search_over (contribution_at i kind.MaxContent) (spanned i ls)) fr
      (search-over-bounds (contribution_at i kind.MaxContent) (spanned i ls) (omega arith) l (slice_fits i.start i.span ls f)) p

  items-bounds : (n : ℕ) (batch : List Measured) (fr : Fr) → MeasuredFit n batch → FrBounds fr → FrBounds (in_turn (item_fr ls) batch fr)
  unfolding All in_turn
  items-bounds n [] fr a p = p
  items-bounds n (i ∷ batch) fr a p = items-bounds n batch (item_fr ls i fr) a.1 (item-bounds n i fr a.0 p)

  pub batch-fr-bounds : (n : ℕ) (batch : List Measured) → MeasuredFit n batch → FrBounds (batch_fr batch ls)
  unfolding batch_fr
  batch-fr-bounds n batch a = items-bounds n batch (bases_fr ls) a (bases-fr-bounds ls f)

  pub fr-over-bounds : (n : ℕ) (e : Constraint) (batch : List Measured) → constraint_number e ≤ most_dots → MeasuredFit n batch → FrBounds (fr_over e batch ls)
  fr-over-bounds n (Definite s) batch h a = cond_has FrBounds (ltb (bases ls) s) (search_over s ls) no_fr (search-over-bounds s ls h t f) no-fr-bounds
  fr-over-bounds n MinContent batch h a = no-fr-bounds
  fr-over-bounds n MaxContent batch h a = batch-fr-bounds n batch a
