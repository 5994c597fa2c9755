-- One item of a letter: the part that it spans, and what it lays over the increases. Assumes nothing.
use mathlib.Core.Path.{◌≡◌, refl, sym, ap, ap₂, ◌∙◌}
use mathlib.Core.Bool.{Bool, false}
use mathlib.Core.List.{List, [], ◌∷◌, ◌++◌, map}
use Prim.Native.Nat.{ℕ, zero, suc, ◌+◌, ◌-◌, ◌≤◌, min}
use native.Mathlib.Nat.{add-sub_cancel_left}
use native.Mathlib.Omega.{arith}
use lib.ListN.{length, get_or, take, drop, replicate, length-take, length-drop}
use lib.Seq.{take_at}
use Rattle.laws.specs.Lists.{some, larger, larger_from}
use Rattle.laws.specs.Sums.{sum}
use Rattle.rounds.specs.Rule.{most_tracks, most_dots}
use Rattle.kinds.specs.declared.constraint.Constraint.{Constraint}
use Rattle.lines.specs.declared.line.Line.{Line}
use Rattle.lines.specs.declared.measured.Measured.{Measured}
use Rattle.lines.specs.Rule.{spanned, extra_of, gains_by, increased_by}
use Rattle.lines.specs.Fits.{LinesFit, MeasuredFits}
use Rattle.lines.proofs.Slices.{slice_fits, slice-is-spanned}
use Rattle.letters.specs.declared.letter.Letter.{Letter}
use Rattle.letters.specs.Letters.{letter_of}
use Rattle.letters.specs.declared.batch.Batch.{Batch}
use Rattle.letters.specs.Batches.{affected_in, shares_in}
use Rattle.letters.specs.declared.totals.Totals.{Totals}
use Rattle.letters.specs.Totals.{totals, tallied, total_in}
use Rattle.letters.proofs.Tallies.{length-tally, total-rises, total-between-is}
use Rattle.letters.proofs.Batches.{shares-in-none, shares-in-unaffected}
use Rattle.letters.proofs.Keeps.{length-shares-in, extra-le}
use Rattle.letters.proofs.Spanned.{larger-from-part}

-- the part from a on, as code names it by its two ends
module _ (a n : ℕ) where
  pub length-between : {A : Type 0} (xs : List A) → a + n ≤ length xs → length (take (a + n - a) (drop a xs)) ≡ n
  length-between xs h = rw (add-sub_cancel_left a n) (length-take n (drop a xs) ∙ go)
    where
      go : min n (length (drop a xs)) ≡ n
      go = let d = length-drop a xs in omega arith

  pub between-few : (lines : List Line) → a + n ≤ length lines → length lines ≤ most_tracks → length (take (a + n - a) (drop a lines)) ≤ most_tracks
  between-few lines h f = let l = length-between lines h in omega arith

  pub between-fits : (lines : List Line) → LinesFit lines → LinesFit (take (a + n - a) (drop a lines))
  between-fits lines f = slice_fits a (a + n - a) lines f

-- the part that an item spans
abbrev pub on_lines : List Line → Measured → List Line
on_lines lines i = take (i.start + i.span - i.start) (drop i.start lines)

module _ (lines : List Line) (i : Measured) (letter : Letter) (c : Constraint) where
  pub extra-few : (dots n : ℕ) → MeasuredFits n i → dots ≡ extra_of (letter_of letter) c i (on_lines lines i) → dots ≤ most_dots
  extra-few dots n f e = let l = extra-le letter c i (on_lines lines i) f in omega arith

module _ (kind : Batch) (lines : List Line) (i : Measured) (letter : Letter) (c : Constraint) where
  shares-long : (dots : ℕ) (ys : List ℕ) → i.start + i.span ≤ length lines → ys ≡ shares_in kind (letter_of letter) dots (on_lines lines i) → length ys ≡ i.span
  shares-long dots ys h s = ap length s ∙ length-shares-in kind (letter_of letter) dots (on_lines lines i) ∙ length-between i.start i.span lines h

  -- the scratch keeps the gains at its front
  pub gains-long : (dots : ℕ) (ys gains : List ℕ) → i.start + i.span ≤ length lines → ys ≡ shares_in kind (letter_of letter) dots (on_lines lines i)
      → length (take i.span (ys ++ drop i.span gains)) ≡ i.span
  gains-long dots ys gains h s = let long = shares-long dots ys h s in ap length (take_at ys (drop i.span gains) i.span long) ∙ long

  pub laid-over : (gains increases ys p : List ℕ) (dots : ℕ) → i.start + i.span ≤ length lines
      → dots ≡ extra_of (letter_of letter) c i (on_lines lines i) → ys ≡ shares_in kind (letter_of letter) dots (on_lines lines i)
      → p ≡ larger (take i.span (ys ++ drop i.span gains)) (take (i.start + i.span - i.start) (drop i.start increases))
      → take i.start increases ++ (p ++ drop (i.start + i.span - i.start) (drop i.start increases)) ≡ increased_by (shares_in kind) (letter_of letter) c lines i increases
  unfolding gains_by
  laid-over gains increases ys p dots h e s l =
      let g : ys ≡ gains_by (shares_in kind) (letter_of letter) c i (spanned i lines) =
      s ∙ ap (λ (d : ℕ). shares_in kind (letter_of letter) d (on_lines lines i)) e ∙ ap (λ (on : List Line). shares_in kind (letter_of letter) (extra_of (letter_of letter) c i on) on) (slice-is-spanned i lines) in
      let long = shares-long dots ys h s in
      let q : p ≡ larger ys (take i.span (drop i.start increases)) =
      l ∙ ap (λ (k : ℕ). larger (take i.span (ys ++ drop i.span gains)) (take k (drop i.start increases))) (add-sub_cancel_left i.start i.span)
      ∙ ap (λ (gs : List ℕ). larger gs (take i.span (drop i.start increases))) (take_at ys (drop i.span gains) i.span long) in
      ap (λ (k : ℕ). take i.start increases ++ (p ++ drop k (drop i.start increases))) (add-sub_cancel_left i.start i.span)
      ∙ ap (λ (r : List ℕ). take i.start increases ++ (r ++ drop i.span (drop i.start increases))) q
      ∙ larger-from-part i.start i.span ys increases long
      ∙ ap (λ (gs : List ℕ). larger_from i.start gs increases) g

-- ---- the spanned sizes, as the difference of two totals

pub sums-long : (lines : List Line) (sums : List Totals) → sums ≡ tallied lines → length sums ≡ length lines + 1
sums-long lines sums are = ap length are ∙ length-tally (totals 0 0) lines

module _ (lines : List Line) (i : Measured) (letter : Letter) (d : Totals) (sums : List Totals) (are : sums ≡ tallied lines) (h : i.start + i.span ≤ length lines) where
  pub spanned-rises : total_in letter (get_or sums i.start d) ≤ total_in letter (get_or sums (i.start + i.span) d)
  spanned-rises = total-rises letter i.start i.span d sums lines are h

  pub spanned-total : (total : ℕ) → total ≡ total_in letter (get_or sums (i.start + i.span) d) - total_in letter (get_or sums i.start d)
      → total ≡ sum (map (letter_of letter).present (on_lines lines i))
  spanned-total total t =
      total-between-is letter i.start i.span d sums lines are h total t
      ∙ ap (λ (on : List Line). sum (map (letter_of letter).present on)) (sym (slice-is-spanned i lines))

-- ---- an item that gives nothing

larger-zeros : (n : ℕ) (ps : List ℕ) → larger (replicate n 0) ps ≡ ps
unfolding larger
larger-zeros zero ps = refl
larger-zeros (suc n) [] = refl
larger-zeros (suc n) (p ∷ ps) = ap₂ ◌∷◌ (omega arith) (larger-zeros n ps)

larger-from-zeros : (k n : ℕ) (ps : List ℕ) → larger_from k (replicate n 0) ps ≡ ps
unfolding larger_from
larger-from-zeros zero n ps = larger-zeros n ps
larger-from-zeros (suc k) n [] = refl
larger-from-zeros (suc k) n (p ∷ ps) = ap (p ∷◌) (larger-from-zeros k n ps)

module _ (kind : Batch) (lines : List Line) (i : Measured) (letter : Letter) (c : Constraint) (increases : List ℕ) where
  gives_nothing : shares_in kind (letter_of letter) (extra_of (letter_of letter) c i (on_lines lines i)) (on_lines lines i) ≡ replicate (length (on_lines lines i)) 0
      → increases ≡ increased_by (shares_in kind) (letter_of letter) c lines i increases
  unfolding gains_by
  gives_nothing n =
      sym (larger-from-zeros i.start (length (on_lines lines i)) increases)
      ∙ ap (λ (gs : List ℕ). larger_from i.start gs increases) (sym n)
      ∙ ap (λ (on : List Line). larger_from i.start (shares_in kind (letter_of letter) (extra_of (letter_of letter) c i on) on) increases) (slice-is-spanned i lines)

  pub asks_nothing : (dots : ℕ) → dots ≡ extra_of (letter_of letter) c i (on_lines lines i) → dots ≡ 0
      → increases ≡ increased_by (shares_in kind) (letter_of letter) c lines i increases
  asks_nothing dots e z =
      gives_nothing (ap (λ (d : ℕ). shares_in kind (letter_of letter) d (on_lines lines i)) (sym e ∙ z) ∙ shares-in-none kind (letter_of letter) (on_lines lines i))

  pub affects-nothing : {b : Bool} → b ≡ some (affected_in kind (letter_of letter)) (on_lines lines i) → b ≡ false
      → increases ≡ increased_by (shares_in kind) (letter_of letter) c lines i increases
  affects-nothing e f = gives_nothing (shares-in-unaffected kind (letter_of letter) _ (on_lines lines i) (sym e ∙ f))
