-- The share by factor as the code makes it: the factors that it loads, the quotas with the factors on top, and what is taken off again. Assumes
-- nothing.
use mathlib.Core.Path.{◌≡◌, refl, sym, ap, ap₂, ◌∙◌}
use mathlib.Core.Bool.{Bool, true, false, ◌&&◌}
use mathlib.Core.List.{List, [], ◌∷◌, map, zip_with}
use Prim.Native.Nat.{ℕ, zero, suc, ◌+◌, ◌-◌, ◌≤◌, ◌<◌, zero-le}
use native.Mathlib.Omega.{arith}
use lib.ListN.{length, get_or, drop, set, replicate, length-map, drop_of_length-le}
use Rattle.laws.specs.Sums.{sum, get_or-le-sum}
use Rattle.laws.specs.Marks.{bit}
use Rattle.laws.specs.Walk.{next}
use Rattle.laws.specs.Lists.{All, some}
use Rattle.rounds.specs.Rule.{gains_of, fill, odd_takers}
use Rattle.rounds.specs.Rule as fill
use Rattle.rounds.specs.Rests.{open_marks, take_marked, take_odd, lost}
use Rattle.rounds.proofs.OpenMarks.{Among, none, one, odd-among}
use Rattle.kinds.specs.Kinds.{maximum_number}
use Rattle.kinds.specs.declared.track.Maximum.{Maximum}
use Rattle.kinds.specs.declared.track.Maximum.TheVariants as maximum
use Rattle.spanned.specs.Rule.{is_fr_maximum, most_factor}
use Rattle.spanned.specs.Sound.{most_of}
use Rattle.lines.specs.declared.line.Line.{Line}
use Rattle.lines.specs.ByFactor.{counted, those_factors, quota, quotas, dots_over, has_factor, with_odd, by_factors, unlimited, plainly}
use Rattle.lines.specs.Rule.{number, more_gains, affects_fr, shares_by_factor}
use Rattle.lines.specs.Rule as rule
use Rattle.lines.specs.Fits.{LinesFit}
use Rattle.lines.proofs.ByFactor.{length-plainly, share-plain, share-weighed, shares-by-factor-add}
use Rattle.letters.specs.declared.letter.Letter.{Letter}
use Rattle.letters.specs.declared.share.Share.TheVariants.{Plain}
use Rattle.letters.specs.Letters.{letter_of}
use Rattle.letters.specs.Shares.{share_tracks, GainsFit}
use Rattle.letters.specs.Factors.{line_factor, FactorsFit}
use Rattle.letters.specs.declared.batch.Batch.TheVariants.{Last}
use Rattle.letters.proofs.Shared.{zeros-more, tracks-of-zeros}
use Rattle.letters.proofs.Keeps.{length-shares-in}

-- the factors of lines within their limits are within theirs
factor-le : (affected : Bool) (m : Maximum) → maximum_number m ≤ most_of m → counted (affected && is_fr_maximum m) (maximum_number m) ≤ most_factor
factor-le true (maximum.Fixed n) h = zero-le
factor-le true maximum.Auto h = zero-le
factor-le true maximum.MinContent h = zero-le
factor-le true maximum.MaxContent h = zero-le
factor-le true (maximum.FitContent n) h = zero-le
factor-le true (maximum.Fr n) h = h
factor-le false m h = zero-le

pub factors-fit : (letter : Letter) (ls : List Line) → LinesFit ls → FactorsFit (map (line_factor letter) ls)
unfolding All
factors-fit letter [] f i = zero-le
factors-fit letter (l ∷ ls) f zero = factor-le ((letter_of letter).affected l) l.track.maximum f.0.track.1
factors-fit letter (l ∷ ls) f (suc i) = factors-fit letter ls f.1 i

pub factors-fit-as : {fs gs : List ℕ} → fs ≡ gs → FactorsFit gs → FactorsFit fs
factors-fit-as e f = rw e f

-- factors that add to nothing are few
pub few-of-none : (fs : List ℕ) → sum fs ≡ 0 → GainsFit fs
few-of-none fs e i = omega (arith, get_or-le-sum fs i)

-- those factors, line by line
those-of-lines : (letter : Letter) (ls : List Line) → those_factors (map (affects_fr (letter_of letter)) ls) (map number ls) ≡ map (line_factor letter) ls
unfolding those_factors zip_with
those-of-lines letter [] = refl
those-of-lines letter (l ∷ ls) = ap (line_factor letter l ∷◌) (those-of-lines letter ls)

-- ---- the factors from the place i on

module _ (letter : Letter) (lines : List Line) where
  abbrev pub factors_from : ℕ → List ℕ
  factors_from i = map (line_factor letter) (drop i lines)

  pub factors-step : (i : ℕ) (d : Line) (v : ℕ) → i < length lines → v ≡ line_factor letter (get_or lines i d) → factors_from i ≡ v ∷ factors_from (i + 1)
  factors-step i d v h e = rw (next lines i d h, e) refl

  pub factors-end : (i : ℕ) → length lines ≤ i → factors_from i ≡ []
  factors-end i h = rw (drop_of_length-le lines h) refl

-- ---- quotas

module _ (dots : ℕ) (fs : List ℕ) where
  -- from the place i on, with the factors on top
  abbrev pub quotas_from : ℕ → List ℕ
  quotas_from i = zip_with ◌+◌ (map (quota dots (sum fs)) (drop i fs)) (drop i fs)

  pub quotas-step : (i v : ℕ) → i < length fs → v ≡ quota dots (sum fs) (get_or fs i 0) + get_or fs i 0 → quotas_from i ≡ v ∷ quotas_from (i + 1)
  unfolding zip_with
  quotas-step i v h e = rw (next fs i 0 h, e) refl

  pub quotas-end : (i : ℕ) → length fs ≤ i → quotas_from i ≡ []
  unfolding zip_with
  quotas-end i h = rw (drop_of_length-le fs h) refl

  pub quotas-all : quotas_from 0 ≡ zip_with ◌+◌ (quotas dots fs) fs
  unfolding quotas
  quotas-all = refl

  -- the dots over, as far as the place i
  abbrev pub over_from : ℕ → ℕ → ℕ
  over_from i over = over - sum (map (quota dots (sum fs)) (drop i fs))

  pub over-all : over_from 0 dots ≡ dots_over dots fs
  unfolding quotas
  over-all = refl

  pub over-step : (i over part next' w : ℕ) → i < length fs → part ≡ quota dots (sum fs) (get_or fs i 0) → next' ≡ over - part → over_from i over ≡ w → over_from (i + 1) next' ≡ w
  unfolding sum
  over-step i over part next' w h e n p =
      let q : sum (map (quota dots (sum fs)) (drop i fs)) ≡ quota dots (sum fs) (get_or fs i 0) + sum (map (quota dots (sum fs)) (drop (i + 1) fs)) =
      ap (λ (gs : List ℕ). sum (map (quota dots (sum fs)) gs)) (next fs i 0 h) in
      omega arith

  pub over-end : (i over w : ℕ) → length fs ≤ i → over_from i over ≡ w → over ≡ w
  unfolding sum
  over-end i over w h p =
      let q : sum (map (quota dots (sum fs)) (drop i fs)) ≡ 0 = ap (λ (gs : List ℕ). sum (map (quota dots (sum fs)) gs)) (drop_of_length-le fs h) in
      omega arith

-- ---- the factors taken off: a taker of an odd dot keeps one of its factor

open-marks-are : (fs : List ℕ) → open_marks fs ≡ map has_factor fs
unfolding open_marks
open-marks-are [] = refl
open-marks-are (f ∷ fs) = ap (has_factor f ∷◌) (open-marks-are fs)

taken-off : (qs fs : List ℕ) {ms : List Bool} → Among ms fs → lost (zip_with ◌+◌ qs fs) (take_marked ms fs) ≡ zip_with with_odd qs ms
unfolding zip_with lost take_marked
taken-off [] fs a = refl
taken-off (q ∷ qs) [] none = refl
taken-off (q ∷ qs) (f ∷ fs) (one {m = m} h a) =
    let e : q + f - (f - bit m) ≡ q + bit m = omega arith in
    ap₂ ◌∷◌ e (taken-off qs fs a)

pub quotas-shared : (dots over : ℕ) (fs gs xs hs : List ℕ) → gs ≡ zip_with ◌+◌ (quotas dots fs) fs → over ≡ dots_over dots fs → xs ≡ take_odd over fs → hs ≡ lost gs xs
    → hs ≡ by_factors dots fs
unfolding by_factors
quotas-shared dots over fs gs xs hs loaded left odd off =
    off
    ∙ ap₂ lost loaded (odd ∙ ap (λ (d : ℕ). take_odd d fs) left)
    ∙ taken-off (quotas dots fs) fs (odd-among (dots_over dots fs) fs)
    ∙ ap (λ (os : List Bool). zip_with with_odd (quotas dots fs) (odd_takers (dots_over dots fs) os)) (open-marks-are fs)

-- ---- the share of a letter

zeros-of-sum : (fs : List ℕ) → sum fs ≡ 0 → fs ≡ replicate (length fs) 0
unfolding sum
zeros-of-sum [] e = refl
zeros-of-sum (f ∷ fs) e = ap₂ ◌∷◌ (omega arith) (zeros-of-sum fs (omega arith))

module _ (letter : Letter) (extra : ℕ) (ls : List Line) (fs : List ℕ) (are : fs ≡ map (line_factor letter) ls) where
  those-are : those_factors (map (affects_fr (letter_of letter)) ls) (map number ls) ≡ fs
  those-are = those-of-lines letter ls ∙ sym are

  pub weighed-shared : (gs : List ℕ) → 0 < sum fs → gs ≡ by_factors extra fs → gs ≡ shares_by_factor (letter_of letter) extra ls
  unfolding shares_by_factor
  weighed-shared gs p e =
      let q : 0 < sum (those_factors (map (affects_fr (letter_of letter)) ls) (map number ls)) = rw those-are p in
      e
      ∙ ap (by_factors extra) (sym those-are)
      ∙ sym (share-weighed extra (map (affects_fr (letter_of letter)) ls) (map number ls) q)

  plain-tracks : (ks : List Line) → map (λ (l : Line). unlimited (affects_fr (letter_of letter) l)) ks ≡ map unlimited (map (affects_fr (letter_of letter)) ks)
  plain-tracks [] = refl
  plain-tracks (k ∷ ks) = ap (unlimited (affects_fr (letter_of letter) k) ∷◌) (plain-tracks ks)

  pub plain_shared : (gs : List ℕ) → sum fs ≡ 0 → gs ≡ more_gains fs (fill extra (share_tracks (Plain letter) ls fs)) → gs ≡ shares_by_factor (letter_of letter) extra ls
  unfolding shares_by_factor plainly
  plain_shared gs z e =
      let marks = map (affects_fr (letter_of letter)) ls in
      let none : fs ≡ replicate (length ls) 0 = zeros-of-sum fs z ∙ ap (λ (n : ℕ). replicate n 0) (ap length are ∙ length-map ls (line_factor letter)) in
      e
      ∙ ap (λ (ys : List ℕ). more_gains ys (fill extra (share_tracks (Plain letter) ls ys))) none
      ∙ ap (λ (ts : List fill.Track). more_gains (replicate (length ls) 0) (fill extra ts)) (tracks-of-zeros (Plain letter) ls ∙ plain-tracks ls)
      ∙ zeros-more (length ls) (gains_of (fill extra (map unlimited marks)).tracks) (length-plainly extra marks ∙ length-map ls (affects_fr (letter_of letter)))
      ∙ sym (share-plain extra marks (map number ls) (ap sum those-are ∙ z))

-- ---- a line alone

one-of-sum : (xs : List ℕ) (n : ℕ) → length xs ≡ 1 → sum xs ≡ n → xs ≡ n ∷ []
unfolding sum
one-of-sum [] n long e = absurd (omega arith)
one-of-sum (x ∷ []) n long e = ap (◌∷ []) (omega arith)
one-of-sum (x ∷ y ∷ xs) n long e = absurd (omega arith)

set-one : (gs : List ℕ) (n : ℕ) → length gs ≡ 1 → set gs 0 n ≡ n ∷ []
set-one [] n long = absurd (omega arith)
set-one (g ∷ []) n long = refl
set-one (g ∷ h ∷ gs) n long = absurd (omega arith)

-- takes all the dots
pub alone-shared : (letter : rule.Letter) (extra : ℕ) (ls : List Line) (gs : List ℕ) → length ls ≡ 1 → length gs ≡ 1 → some (affects_fr letter) ls ≡ true
    → set gs 0 extra ≡ shares_by_factor letter extra ls
alone-shared letter extra ls gs alone long e =
    set-one gs extra long
    ∙ sym (one-of-sum (shares_by_factor letter extra ls) extra (length-shares-in Last letter extra ls ∙ alone) (shares-by-factor-add letter extra ls e))
