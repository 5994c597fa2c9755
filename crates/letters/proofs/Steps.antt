-- A turn and the end of each loop over lines, said of lists. Assumes nothing.
use mathlib.Core.Path.{◌≡◌, refl, sym, ap, ◌∙◌}
use mathlib.Core.Bool.{Bool, true, false, cond}
use mathlib.Core.List.{List, [], ◌∷◌, map}
use Prim.Native.Nat.{ℕ, ◌+◌, ◌≤◌, ◌<◌, max}
use native.Mathlib.Nat.{add-zero}
use native.Mathlib.Omega.{arith}
use lib.ListN.{length, get_or, drop, drop_of_length-le}
use Rattle.laws.specs.Lists.{among, every, larger, all-at}
use Rattle.laws.specs.Sums.{sum}
use Rattle.laws.specs.Walk.{next}
use Rattle.kinds.specs.Kinds.{maximum_tag, maximum_number}
use Rattle.kinds.specs.declared.track.Maximum.{Maximum}
use Rattle.kinds.specs.declared.track.Maximum.TheVariants as maximum
use Rattle.spanned.specs.Rule.{most_size}
use Rattle.spanned.specs.Sound.{most_of}
use Rattle.std.specs.Prelude.{Some, None}
use Rattle.lines.specs.declared.line.Line.{Line}
use Rattle.lines.specs.Rule.{Limit, max_in, number, maxima}
use Rattle.lines.specs.Fits.{LineFits, LinesFit}
use Rattle.letters.specs.Letters.{fixed_maximum}

module _ (lines : List Line) (i : ℕ) where
  -- ---- a sum of what each line has

  pub total-step : (d : Line) (P : Line → ℕ) (total v w : ℕ) → i < length lines → v ≡ P (get_or lines i d) → total + sum (map P (drop i lines)) ≡ w
      → (total + v) + sum (map P (drop (i + 1) lines)) ≡ w
  unfolding sum
  total-step d P total v w h e p =
      let q : sum (map P (drop i lines)) ≡ P (get_or lines i d) + sum (map P (drop (i + 1) lines)) = ap (λ (ls : List Line). sum (map P ls)) (next lines i d h) in
      omega arith

  pub total-end : (P : Line → ℕ) (total w : ℕ) → length lines ≤ i → total + sum (map P (drop i lines)) ≡ w → total ≡ w
  unfolding sum
  total-end P total w h p = let q : sum (map P (drop i lines)) ≡ 0 = ap (λ (ls : List Line). sum (map P ls)) (drop_of_length-le lines h) in omega arith

-- ---- the sum of the maxima

-- so many dots more, where there is a number
abbrev pub plus : ℕ → Limit → Limit
plus n None = None
plus n (Some m) = Some (n + m)

plus-plus : (a b : ℕ) (m : Limit) → plus a (plus b m) ≡ plus (a + b) m
plus-plus a b None = refl
plus-plus a b (Some m) = let e : a + (b + m) ≡ a + b + m = omega arith in ap Some e

no_number : {X : Type 0} (n : ℕ) → None ≡ Some n → X
no_number n e = let z : ◌≡◌ {A = ℕ} 0 1 = cc in absurd (omega arith)

fixed_told : (m : Maximum) (n : ℕ) → fixed_maximum m ≡ Some n → (among (1 ∷ 5 ∷ []) (maximum_tag m) ≡ true) × (maximum_number m ≡ n)
unfolding among
fixed_told (maximum.Fixed k) n e = (refl, cc)
fixed_told maximum.Auto n e = no_number n e
fixed_told maximum.MinContent n e = no_number n e
fixed_told maximum.MaxContent n e = no_number n e
fixed_told (maximum.FitContent k) n e = (refl, cc)
fixed_told (maximum.Fr k) n e = no_number n e

fixed-not : (m : Maximum) → fixed_maximum m ≡ None → among (1 ∷ 5 ∷ []) (maximum_tag m) ≡ false
unfolding among
fixed-not (maximum.Fixed k) e = no_number k (sym e)
fixed-not maximum.Auto e = refl
fixed-not maximum.MinContent e = refl
fixed-not maximum.MaxContent e = refl
fixed-not (maximum.FitContent k) e = no_number k (sym e)
fixed-not (maximum.Fr k) e = refl

fixed-le : (m : Maximum) (n : ℕ) → fixed_maximum m ≡ Some n → maximum_number m ≤ most_of m → n ≤ most_size
fixed-le (maximum.Fixed k) n e h = let f : k ≡ n = cc in omega arith
fixed-le maximum.Auto n e h = no_number n e
fixed-le maximum.MinContent n e h = no_number n e
fixed-le maximum.MaxContent n e h = no_number n e
fixed-le (maximum.FitContent k) n e h = let f : k ≡ n = cc in omega arith
fixed-le (maximum.Fr k) n e h = no_number n e

maxima-cons : (l : Line) (ls : List Line) (n : ℕ) → fixed_maximum l.track.maximum ≡ Some n → maxima (l ∷ ls) ≡ plus n (maxima ls)
unfolding every sum
maxima-cons l ls n e = let f = fixed_told l.track.maximum n e in rw (f.0, f.1) (go (every (max_in (1 ∷ 5 ∷ [])) ls))
  where
    go : (b : Bool) → cond b (Some (n + sum (map number ls))) None ≡ plus n (cond b (Some (sum (map number ls))) None)
    go true = refl
    go false = refl

maxima-none : (l : Line) (ls : List Line) → fixed_maximum l.track.maximum ≡ None → maxima (l ∷ ls) ≡ None
unfolding every sum
maxima-none l ls e = rw (fixed-not l.track.maximum e) refl

module _ (lines : List Line) (i total : ℕ) (w : Limit) where
  pub maxima-step : (d : Line) (n : ℕ) → i < length lines → fixed_maximum (get_or lines i d).track.maximum ≡ Some n
      → plus total (maxima (drop i lines)) ≡ w → plus (total + n) (maxima (drop (i + 1) lines)) ≡ w
  maxima-step d n h e p =
      sym (plus-plus total n (maxima (drop (i + 1) lines)))
      ∙ ap (plus total) (sym (maxima-cons (get_or lines i d) (drop (i + 1) lines) n e) ∙ ap (λ (ls : List Line). maxima ls) (sym (next lines i d h)))
      ∙ p

  pub maxima-stop : (d : Line) → i < length lines → fixed_maximum (get_or lines i d).track.maximum ≡ None → plus total (maxima (drop i lines)) ≡ w → None ≡ w
  maxima-stop d h e p =
      ap (plus total) (sym (maxima-none (get_or lines i d) (drop (i + 1) lines) e) ∙ ap (λ (ls : List Line). maxima ls) (sym (next lines i d h)))
      ∙ p

  pub maxima-end : length lines ≤ i → plus total (maxima (drop i lines)) ≡ w → Some total ≡ w
  unfolding every sum
  maxima-end h p =
      ap Some (sym (add-zero total))
      ∙ ap (λ (ls : List Line). plus total (maxima ls)) (sym (drop_of_length-le lines h))
      ∙ p

pub fixed-fits : (lines : List Line) (i : ℕ) (d : Line) (n : ℕ) → LinesFit lines → i < length lines → fixed_maximum (get_or lines i d).track.maximum ≡ Some n → n ≤ most_size
fixed-fits lines i d n a h e = fixed-le (get_or lines i d).track.maximum n e (all-at LineFits lines i d a h).track.1

-- ---- the larger of each two

pub larger-nil : (gs : List ℕ) → larger gs [] ≡ []
unfolding larger
larger-nil [] = refl
larger-nil (g ∷ gs) = refl

pub larger-step : (gains : List ℕ) (i x v : ℕ) (xs : List ℕ) → i < length gains → v ≡ max (get_or gains i 0) x
    → larger (drop i gains) (x ∷ xs) ≡ v ∷ larger (drop (i + 1) gains) xs
unfolding larger
larger-step gains i x v xs h e = rw (next gains i 0 h, e) refl
