-- Running totals: a turn and the end of the walk that makes them, and what two places differ by. Assumes nothing.
use mathlib.Core.Path.{◌≡◌, refl, sym, ap, ap₂, ◌∙◌}
use mathlib.Core.List.{List, [], ◌∷◌, ◌++◌, map, append-nil}
use Prim.Native.Nat.{ℕ, zero, suc, ◌+◌, ◌-◌, ◌≤◌, ◌<◌}
use native.Mathlib.Nat.{le_of_suc-le-suc, not-suc-le-zero, zero-add}
use native.Mathlib.Omega.{arith}
use lib.ListN.{length, get_or, take, drop, drop_of_length-le, set, length-set}
use lib.Seq.{take_all, take-add}
use Rattle.laws.specs.Sums.{sum}
use Rattle.laws.specs.Walk.{next, written}
use Rattle.lines.specs.declared.line.Line.{Line}
use Rattle.lines.specs.Rule.{limit_size}
use Rattle.letters.specs.declared.letter.Letter.{Letter}
use Rattle.letters.specs.declared.letter.Letter.TheVariants.{A, B, C, D, E, F}
use Rattle.letters.specs.Letters.{letter_of}
use Rattle.letters.specs.declared.totals.Totals.{Totals}
use Rattle.letters.specs.Totals.{totals, with_line, tally_from, tallied, total_in}

-- ---- the walk

module _ (lines : List Line) (sums : List Totals) (i : ℕ) (t : Totals) (w : List Totals) (fits : i < length sums)
    (so_far : take i sums ++ tally_from t (drop i lines) ≡ w) where
  pub tally-step : (d : Line) (t' : Totals) → i < length lines → t' ≡ with_line t (get_or lines i d)
      → take (i + 1) (set sums i t) ++ tally_from t' (drop (i + 1) lines) ≡ w
  unfolding tally_from
  tally-step d t' h e =
      rw e (written sums i t _ fits ∙ ap (λ (ls : List Line). take i sums ++ tally_from t ls) (sym (next lines i d h)) ∙ so_far)

  pub tally-end : length lines ≤ i → length sums ≤ i + 1 → set sums i t ≡ w
  unfolding tally_from
  tally-end h short =
      let s : length (set sums i t) ≤ i + 1 = let k = length-set sums i t in omega arith in
      sym (append-nil (set sums i t)) ∙ ap (◌++ []) (sym (take_all (i + 1) (set sums i t) s))
      ∙ written sums i t [] fits ∙ ap (λ (ls : List Line). take i sums ++ tally_from t ls) (sym (drop_of_length-le lines h)) ∙ so_far

-- ---- what stands in a place

tally-at : (t d : Totals) (k : ℕ) (ls : List Line) → k ≤ length ls
    → get_or (tally_from t ls) k d ≡ totals (t.bases + sum (map (λ (l : Line). l.base) (take k ls))) (t.limits + sum (map limit_size (take k ls)))
unfolding tally_from sum
tally-at t d zero [] h = ap₂ totals (omega arith) (omega arith)
tally-at t d zero (l ∷ ls) h = ap₂ totals (omega arith) (omega arith)
tally-at t d (suc k) [] h = absurd (not-suc-le-zero h)
tally-at t d (suc k) (l ∷ ls) h = tally-at (with_line t l) d k ls (le_of_suc-le-suc h) ∙ ap₂ totals (omega arith) (omega arith)

pub length-tally : (t : Totals) (ls : List Line) → length (tally_from t ls) ≡ length ls + 1
unfolding tally_from
length-tally t [] = refl
length-tally t (l ∷ ls) = let e = length-tally (with_line t l) ls in omega arith

-- so it is the sum of what the letter measures against
total-at : (letter : Letter) (k : ℕ) (d : Totals) (ls : List Line) → k ≤ length ls → total_in letter (get_or (tallied ls) k d) ≡ sum (map (letter_of letter).present (take k ls))
total-at A k d ls h = ap (λ (t : Totals). t.bases) (tally-at (totals 0 0) d k ls h) ∙ zero-add _
total-at B k d ls h = ap (λ (t : Totals). t.bases) (tally-at (totals 0 0) d k ls h) ∙ zero-add _
total-at C k d ls h = ap (λ (t : Totals). t.bases) (tally-at (totals 0 0) d k ls h) ∙ zero-add _
total-at D k d ls h = ap (λ (t : Totals). t.bases) (tally-at (totals 0 0) d k ls h) ∙ zero-add _
total-at E k d ls h = ap (λ (t : Totals). t.limits) (tally-at (totals 0 0) d k ls h) ∙ zero-add _
total-at F k d ls h = ap (λ (t : Totals). t.limits) (tally-at (totals 0 0) d k ls h) ∙ zero-add _

-- ---- the sum of a part

sum-append : (f : Line → ℕ) (xs ys : List Line) → sum (map f (xs ++ ys)) ≡ sum (map f xs) + sum (map f ys)
unfolding sum
sum-append f [] ys = sym (zero-add _)
sum-append f (x ∷ xs) ys = let e = sum-append f xs ys in omega arith

sum-part : (f : Line → ℕ) (a n : ℕ) (ls : List Line) → sum (map f (take (a + n) ls)) ≡ sum (map f (take a ls)) + sum (map f (take n (drop a ls)))
sum-part f a n ls = ap (λ (xs : List Line). sum (map f xs)) (take-add a n ls) ∙ sum-append f (take a ls) (take n (drop a ls))

module _ (letter : Letter) (a n : ℕ) (d : Totals) (sums : List Totals) (ls : List Line) (are : sums ≡ tallied ls) (h : a + n ≤ length ls) where
  ends : total_in letter (get_or sums (a + n) d) ≡ total_in letter (get_or sums a d) + sum (map (letter_of letter).present (take n (drop a ls)))
  ends =
      let s = total-at letter a d ls (omega arith) in
      rw are (total-at letter (a + n) d ls h ∙ sum-part (letter_of letter).present a n ls ∙ ap (◌+ sum (map (letter_of letter).present (take n (drop a ls)))) (sym s))

  pub total-rises : total_in letter (get_or sums a d) ≤ total_in letter (get_or sums (a + n) d)
  total-rises = let e = ends in omega arith

  -- what two places differ by is the sum of the part between them
  pub total-between-is : (total : ℕ) → total ≡ total_in letter (get_or sums (a + n) d) - total_in letter (get_or sums a d)
      → total ≡ sum (map (letter_of letter).present (take n (drop a ls)))
  total-between-is total t = let e = ends in omega arith
