-- The share by factor: its gains add to the dots, the dots over are fewer than the tracks with a factor, a factor of 0 beside one above 0 gains
-- nothing, and each gain is its quota or one dot more. Assumes nothing.
use mathlib.Core.Path.{◌≡◌, refl, sym, ap, ◌∙◌}
use mathlib.Core.Logic.{◌⊎◌, inl, inr, ⊎_elim}
use mathlib.Core.Bool.{Bool, true, false, cond, ◌||◌}
use mathlib.Core.List.{List, [], ◌∷◌, map, zip_with}
use Prim.Native.Nat.{ℕ, zero, suc, ◌+◌, ◌*◌, ◌/◌, ◌≤◌, ◌<◌}
use native.Mathlib.Nat.{add-mul, mul-add, zero-mul, mul-zero, zero-div, div-mul-le_self, lt-div-mul-add, mul-le-mul_right, le_of_mul-le-mul_right}
use native.Mathlib.Omega.{arith}
use lib.Dec.{eqb}
use lib.ListN.{length, get_or, length-map}
use borrow.Author.Tests.{eqb-true, eqb-false, lt-ltb}
use Rattle.laws.specs.Tests.{lt-or-ge, never}
use Rattle.laws.specs.Lists.{some, length-zip}
use Rattle.laws.specs.Alls.{image-all}
use Rattle.laws.specs.Marks.{bit, number}
use Rattle.laws.specs.Sums.{sum, get_or-le-sum}
use Rattle.rounds.specs.Rule.{fill, odd_takers}
use Rattle.rounds.specs.Rule as fill
use Rattle.rounds.specs.Rests.{caps}
use Rattle.rounds.proofs.Tied.{Fresh}
use Rattle.rounds.proofs.Fresh.{sum-gains-add-left, gain-add-left-le, none_left, gain-le-cap, length-gains}
use Rattle.rounds.proofs.Odd.{odd-length, odd-open, odd_number}
use Rattle.kinds.specs.declared.constraint.Constraint.{Constraint}
use Rattle.lines.specs.declared.line.Line.{Line}
use Rattle.lines.specs.declared.measured.Measured.{Measured}
use Rattle.lines.specs.Rule.{Letter, affects_fr, extra_of, gains_by, shares_by_factor}
use Rattle.lines.specs.Rule as rule
use Rattle.lines.specs.ByFactor.{counted, those_factors, quota, quotas, dots_over, has_factor, with_odd, by_factors, unlimited, plainly, share_by_factor}

-- a factor of 0 is none
no-factor : has_factor 0 ≡ false
no-factor = refl

-- ---- the quotas, all times the sum of the factors: no more than the dots, and with one more for each factor above it they pass the dots

module _ (dots total : ℕ) (p : 0 < total) where
  quotas-below : (fs : List ℕ) → sum (map (quota dots total) fs) * total ≤ dots * sum fs
  unfolding sum
  quotas-below [] = omega (arith, zero-mul total)
  quotas-below (f ∷ fs) =
      omega (arith, add-mul (quota dots total f) (sum (map (quota dots total) fs)) total, mul-add dots f (sum fs), div-mul-le_self (dots * f) total, quotas-below fs)

  quotas-above : (fs : List ℕ) → dots * sum fs + number (map has_factor fs) ≤ (sum (map (quota dots total) fs) + number (map has_factor fs)) * total
  unfolding sum number
  quotas-above [] = omega (arith, mul-zero dots)
  quotas-above (zero ∷ fs) =
      let q = quota dots total 0 in
      let P = sum (map (quota dots total) fs) in
      let n = number (map has_factor fs) in
      let e : q + P + (0 + n) ≡ q + (P + n) = omega arith in
      rw e (omega (arith, add-mul q (P + n) total, mul-add dots 0 (sum fs), mul-zero dots, quotas-above fs))
  quotas-above (suc f ∷ fs) =
      let q = quota dots total (suc f) in
      let P = sum (map (quota dots total) fs) in
      let n = number (map has_factor fs) in
      let e : q + P + (1 + n) ≡ q + (1 + (P + n)) = omega arith in
      rw (lt-ltb 0 (suc f) (omega arith), e)
      (omega (arith, add-mul q (1 + (P + n)) total, add-mul 1 (P + n) total, mul-add dots (suc f) (sum fs), lt-div-mul-add {a = dots * suc f} p, quotas-above fs))

some-factor : (fs : List ℕ) → 0 < sum fs → 0 < number (map has_factor fs)
unfolding sum number
some-factor [] h = absurd (omega arith)
some-factor (zero ∷ fs) h = omega (arith, some-factor fs (omega arith))
some-factor (suc f ∷ fs) h = rw (lt-ltb 0 (suc f) (omega arith)) (omega arith)

-- ---- quotas with odd dots

sum-with-odd : (qs : List ℕ) (ms : List Bool) → length ms ≡ length qs → sum (zip_with with_odd qs ms) ≡ sum qs + number ms
unfolding zip_with sum number
sum-with-odd [] [] e = refl
sum-with-odd [] (m ∷ ms) e = absurd (omega arith)
sum-with-odd (q ∷ qs) [] e = absurd (omega arith)
sum-with-odd (q ∷ qs) (m ∷ ms) e = omega (arith, sum-with-odd qs ms (omega arith))

with-odd-at : (qs : List ℕ) (ms : List Bool) (i : ℕ) → length ms ≡ length qs → get_or (zip_with with_odd qs ms) i 0 ≡ get_or qs i 0 + bit (get_or ms i false)
unfolding zip_with
with-odd-at [] [] i e = refl
with-odd-at [] (m ∷ ms) i e = absurd (omega arith)
with-odd-at (q ∷ qs) [] i e = absurd (omega arith)
with-odd-at (q ∷ qs) (m ∷ ms) zero e = refl
with-odd-at (q ∷ qs) (m ∷ ms) (suc i) e = with-odd-at qs ms i (omega arith)

quota-of-zero : (dots total : ℕ) → quota dots total 0 ≡ 0
quota-of-zero dots total = ap (◌/ total) (mul-zero dots) ∙ zero-div total

quota-at : (dots total : ℕ) (fs : List ℕ) (i : ℕ) → get_or (map (quota dots total) fs) i 0 ≡ quota dots total (get_or fs i 0)
quota-at dots total [] i = sym (quota-of-zero dots total)
quota-at dots total (f ∷ fs) zero = refl
quota-at dots total (f ∷ fs) (suc i) = quota-at dots total fs i

-- ---- factors that are not all 0

module _ (dots : ℕ) (fs : List ℕ) (p : 0 < sum fs) where
  pub quotas-le : sum (quotas dots fs) ≤ dots
  unfolding quotas
  quotas-le = le_of_mul-le-mul_right (quotas-below dots (sum fs) p fs) p

  -- the dots over are fewer than the tracks with a factor
  pub dots-over-lt : dots_over dots fs < number (map has_factor fs)
  unfolding quotas
  dots-over-lt =
      ⊎_elim
      (λ (h : dots_over dots fs < number (map has_factor fs)). h)
      (λ (h : number (map has_factor fs) ≤ dots_over dots fs).
      let n = number (map has_factor fs) in
      let some = some-factor fs p in
      let le : sum (map (quota dots (sum fs)) fs) + n ≤ dots = omega arith in
      let a = quotas-above dots (sum fs) p fs in
      let b = mul-le-mul_right (sum fs) le in
      absurd (omega arith))
      (lt-or-ge (dots_over dots fs) (number (map has_factor fs)))

  length-quotas : length (quotas dots fs) ≡ length fs
  unfolding quotas
  length-quotas = length-map fs (quota dots (sum fs))

  takers-long : length (odd_takers (dots_over dots fs) (map has_factor fs)) ≡ length (quotas dots fs)
  takers-long = odd-length (dots_over dots fs) (map has_factor fs) ∙ length-map fs has_factor ∙ sym length-quotas

  pub length-by-factors : length (by_factors dots fs) ≡ length fs
  unfolding by_factors
  length-by-factors = length-zip with_odd (quotas dots fs) (odd_takers (dots_over dots fs) (map has_factor fs)) takers-long ∙ length-quotas

  pub sum-by-factors : sum (by_factors dots fs) ≡ dots
  unfolding by_factors
  sum-by-factors =
      sum-with-odd (quotas dots fs) (odd_takers (dots_over dots fs) (map has_factor fs)) takers-long
      ∙ omega (arith, odd_number (dots_over dots fs) (map has_factor fs), dots-over-lt, quotas-le)

  -- what stands at a place: its quota, and an odd dot where it takes one
  by-factors-at : (i : ℕ) → get_or (by_factors dots fs) i 0 ≡ quota dots (sum fs) (get_or fs i 0) + bit (get_or (odd_takers (dots_over dots fs) (map has_factor fs)) i false)
  unfolding by_factors quotas
  by-factors-at i =
      with-odd-at (quotas dots fs) (odd_takers (dots_over dots fs) (map has_factor fs)) i takers-long
      ∙ ap (◌+ bit (get_or (odd_takers (dots_over dots fs) (map has_factor fs)) i false)) (quota-at dots (sum fs) fs i)

  -- a factor of 0 takes no odd dot
  zero-takes-none : (i : ℕ) → get_or fs i 0 ≡ 0 → get_or (by_factors dots fs) i 0 ≡ 0
  zero-takes-none i e =
      let o = odd-open (dots_over dots fs) (map has_factor fs) i in
      let m : bit (get_or (map has_factor fs) i false) ≡ 0 = has-at fs i e in
      let q : quota dots (sum fs) (get_or fs i 0) ≡ 0 = ap (quota dots (sum fs)) e ∙ quota-of-zero dots (sum fs) in
      omega (arith, by-factors-at i)
    where
      has-at : (gs : List ℕ) (i : ℕ) → get_or gs i 0 ≡ 0 → bit (get_or (map has_factor gs) i false) ≡ 0
      has-at [] i e = refl
      has-at (g ∷ gs) zero e = ap (λ (f : ℕ). bit (has_factor f)) e ∙ ap bit no-factor
      has-at (g ∷ gs) (suc i) e = has-at gs i e

-- ---- the plain fill without limits

module _ (dots : ℕ) (affected : List Bool) where
  plain-fresh : Fresh (map unlimited affected)
  plain-fresh = image-all (λ (t : fill.Track). t.gain ≡ 0) unlimited (λ a. refl) affected

  plain-cap : (i : ℕ) → get_or (caps dots (map unlimited affected)) i 0 ≡ cond (get_or affected i false) dots 0
  unfolding caps
  plain-cap i = go affected i
    where
      go : (as' : List Bool) (i : ℕ) → get_or (caps dots (map unlimited as')) i 0 ≡ cond (get_or as' i false) dots 0
      go [] i = refl
      go (a ∷ as') zero = refl
      go (a ∷ as') (suc i) = go as' i

  pub length-plainly : length (plainly dots affected) ≡ length affected
  unfolding plainly
  length-plainly = length-gains dots (map unlimited affected) plain-fresh ∙ length-map affected unlimited

  sum-plainly : (i : ℕ) → get_or affected i false ≡ true → sum (plainly dots affected) ≡ dots
  unfolding plainly
  sum-plainly i a =
      let e = plain-cap i ∙ ap (λ (b : Bool). cond b dots 0) a in
      let z = none_left dots (map unlimited affected) plain-fresh i (omega arith) in
      omega (arith, sum-gains-add-left dots (map unlimited affected) plain-fresh)

  plainly-le : (i : ℕ) → get_or (plainly dots affected) i 0 ≤ dots
  unfolding plainly
  plainly-le i = omega (arith, gain-add-left-le dots (map unlimited affected) plain-fresh i)

  plainly-unaffected : (i : ℕ) → get_or affected i false ≡ false → get_or (plainly dots affected) i 0 ≡ 0
  unfolding plainly
  plainly-unaffected i a =
      let e = plain-cap i ∙ ap (λ (b : Bool). cond b dots 0) a in
      omega (arith, gain-le-cap dots (map unlimited affected) plain-fresh i)

-- ---- the share by factor

those-at : (affected : List Bool) (factors : List ℕ) (i : ℕ) → get_or (those_factors affected factors) i 0 ≡ counted (get_or affected i false) (get_or factors i 0)
unfolding those_factors zip_with
those-at [] factors i = refl
those-at (a ∷ affected) [] i = sym (nothing (get_or (a ∷ affected) i false))
  where
    nothing : (b : Bool) → counted b 0 ≡ 0
    nothing true = refl
    nothing false = refl
those-at (a ∷ affected) (f ∷ factors) zero = refl
those-at (a ∷ affected) (f ∷ factors) (suc i) = those-at affected factors i

module _ (dots : ℕ) (affected : List Bool) (factors : List ℕ) where
  abbrev those : List ℕ
  those = those_factors affected factors

  -- by whether those factors are all 0
  share-cases : (P : List ℕ → Type 0) → P (plainly dots affected) → (0 < sum those → P (by_factors dots those)) → P (share_by_factor dots affected factors)
  unfolding share_by_factor
  share-cases P plain weighed = go (eqb (sum those) 0) refl
    where
      go : (b : Bool) → eqb (sum those) 0 ≡ b → P (cond b (plainly dots affected) (by_factors dots those))
      go true e = plain
      go false e = let n = eqb-false (sum those) 0 e in weighed (omega arith)

  pub share-plain : sum those ≡ 0 → share_by_factor dots affected factors ≡ plainly dots affected
  unfolding share_by_factor
  share-plain z = rw z refl

  pub share-weighed : 0 < sum those → share_by_factor dots affected factors ≡ by_factors dots those
  unfolding share_by_factor
  share-weighed p = go (eqb (sum those) 0) refl
    where
      go : (b : Bool) → eqb (sum those) 0 ≡ b → cond b (plainly dots affected) (by_factors dots those) ≡ by_factors dots those
      go true e = let z = eqb-true (sum those) 0 e in absurd (omega arith)
      go false e = refl

  -- the gains add to the dots whenever a track is affected
  pub share-adds : (i : ℕ) → get_or affected i false ≡ true → sum (share_by_factor dots affected factors) ≡ dots
  share-adds i a = share-cases (λ (gs : List ℕ). sum gs ≡ dots) (sum-plainly dots affected i a) (λ p. sum-by-factors dots those p)

  -- a factor of 0 beside one above 0 gains nothing
  pub zero-factor-gains-nothing : (i j : ℕ) → get_or affected j false ≡ true → 0 < get_or factors j 0 → get_or factors i 0 ≡ 0
      → get_or (share_by_factor dots affected factors) i 0 ≡ 0
  zero-factor-gains-nothing i j a p z =
      let e : get_or those j 0 ≡ get_or factors j 0 = those-at affected factors j ∙ ap (λ (b : Bool). counted b (get_or factors j 0)) a in
      let w : 0 < sum those = omega (arith, get_or-le-sum those j) in
      let n : get_or those i 0 ≡ 0 = those-at affected factors i ∙ counted-zero (get_or affected i false) (get_or factors i 0) z in
      ap (λ (gs : List ℕ). get_or gs i 0) (share-weighed w) ∙ zero-takes-none dots those w i n
    where
      counted-zero : (b : Bool) (f : ℕ) → f ≡ 0 → counted b f ≡ 0
      counted-zero true f e = e
      counted-zero false f e = refl

  -- each gain is the dots times its factor divided by the sum of those factors, rounded down, or one dot more
  pub gain-is-quota-or-one-more : (i : ℕ) → 0 < sum those → get_or affected i false ≡ true
      → (get_or (share_by_factor dots affected factors) i 0 ≡ quota dots (sum those) (get_or factors i 0))
      ⊎ (get_or (share_by_factor dots affected factors) i 0 ≡ quota dots (sum those) (get_or factors i 0) + 1)
  gain-is-quota-or-one-more i w a = go (get_or (odd_takers (dots_over dots those) (map has_factor those)) i false) is
    where
      own : get_or those i 0 ≡ get_or factors i 0
      own = those-at affected factors i ∙ ap (λ (b : Bool). counted b (get_or factors i 0)) a

      is : get_or (share_by_factor dots affected factors) i 0 ≡ quota dots (sum those) (get_or factors i 0) + bit (get_or (odd_takers (dots_over dots those) (map has_factor those)) i false)
      is =
          ap (λ (gs : List ℕ). get_or gs i 0) (share-weighed w)
          ∙ by-factors-at dots those w i
          ∙ ap (λ (f : ℕ). quota dots (sum those) f + bit (get_or (odd_takers (dots_over dots those) (map has_factor those)) i false)) own

      go : (b : Bool) → get_or (share_by_factor dots affected factors) i 0 ≡ quota dots (sum those) (get_or factors i 0) + bit b
          → (get_or (share_by_factor dots affected factors) i 0 ≡ quota dots (sum those) (get_or factors i 0))
          ⊎ (get_or (share_by_factor dots affected factors) i 0 ≡ quota dots (sum those) (get_or factors i 0) + 1)
      go true e = inr e
      go false e = inl (omega arith)

  -- no gain is more than the dots
  pub share-le : (i : ℕ) → get_or (share_by_factor dots affected factors) i 0 ≤ dots
  share-le i =
      share-cases (λ (gs : List ℕ). get_or gs i 0 ≤ dots) (plainly-le dots affected i)
      (λ p. omega (arith, get_or-le-sum (by_factors dots those) i, sum-by-factors dots those p))

  -- a track that is not affected gains nothing
  pub unaffected-gains-nothing : (i : ℕ) → get_or affected i false ≡ false → get_or (share_by_factor dots affected factors) i 0 ≡ 0
  unaffected-gains-nothing i a =
      share-cases (λ (gs : List ℕ). get_or gs i 0 ≡ 0) (plainly-unaffected dots affected i a)
      (λ p. zero-takes-none dots those p i (those-at affected factors i ∙ ap (λ (b : Bool). counted b (get_or factors i 0)) a))

  pub length-share : length factors ≡ length affected → length (share_by_factor dots affected factors) ≡ length affected
  unfolding those_factors
  length-share e =
      share-cases (λ (gs : List ℕ). length gs ≡ length affected) (length-plainly dots affected)
      (λ p. length-by-factors dots those p ∙ length-zip counted affected factors e)

-- ---- an item of the last batch

-- where some line is affected, there is its place
affected-at : (p : Line → Bool) (on : List Line) → some p on ≡ true → (i : ℕ) × (get_or (map p on) i false ≡ true)
unfolding some
affected-at p [] e = never e refl
affected-at p (l ∷ on) e = go (p l) refl e (affected-at p on)
  where
    go : (b : Bool) → p l ≡ b → (b || some p on) ≡ true → (some p on ≡ true → (i : ℕ) × (get_or (map p on) i false ≡ true)) → (i : ℕ) × (get_or (p l ∷ map p on) i false ≡ true)
    go true q r later = (0, q)
    go false q r later = let k = later r in (suc k.0, k.1)

pub shares-by-factor-add : (letter : Letter) (extra : ℕ) (on : List Line) → some (affects_fr letter) on ≡ true → sum (shares_by_factor letter extra on) ≡ extra
unfolding shares_by_factor
shares-by-factor-add letter extra on e =
    let k = affected-at (affects_fr letter) on e in share-adds extra (map (affects_fr letter) on) (map rule.number on) k.0 k.1

-- what it gives adds to its extra dots whenever the letter affects an fr track that it spans
pub item-gains-add : (letter : Letter) (c : Constraint) (i : Measured) (on : List Line) → some (affects_fr letter) on ≡ true
    → sum (gains_by shares_by_factor letter c i on) ≡ extra_of letter c i on
unfolding gains_by
item-gains-add letter c i on e = shares-by-factor-add letter (extra_of letter c i on) on e
