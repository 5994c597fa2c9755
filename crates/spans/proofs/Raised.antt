-- One letter: the increases that were planned, and the lines that they raise. Assumes nothing.
use mathlib.Core.Path.{◌≡◌, refl, sym, ap, ◌∙◌, subst}
use mathlib.Core.Bool.{Bool, true, false, true≢false}
use mathlib.Core.List.{List, [], ◌∷◌, zip_with}
use Prim.Native.Nat.{ℕ, ◌+◌, ◌≤◌, ◌<◌}
use lib.ListN.{length, get_or, replicate}
use Rattle.laws.specs.Lists.{in_turn}
use Rattle.kinds.specs.declared.constraint.Constraint.{Constraint}
use Rattle.kinds.specs.declared.constraint.Constraint.TheVariants.{Definite, MinContent, MaxContent}
use Rattle.lines.specs.declared.line.Line.{Line}
use Rattle.lines.specs.declared.measured.Measured.{Measured}
use Rattle.lines.specs.Rule.{increased_by, increases, raise, batched}
use Rattle.lines.specs.Fits.{LinesFit, MeasuredFit}
use Rattle.letters.specs.declared.letter.Letter.{Letter}
use Rattle.letters.specs.Letters.{letter_of, most}
use Rattle.letters.specs.declared.batch.Batch.{Batch}
use Rattle.letters.specs.declared.batch.Batch.TheVariants.{OfSpan, Last}
use Rattle.letters.specs.Batches.{shares_in, letters_in, batched_in}
use Rattle.letters.specs.declared.totals.Totals.{Totals}
use Rattle.letters.specs.Totals.{tallied}
use Rattle.lines.proofs.Increases.{length-increases}
use Rattle.letters.proofs.Keeps.{increases-applicable, raise-fits}
use Rattle.letters.proofs.Shared.{zeros-as}
use native.Mathlib.Omega.{arith}
use borrow.Author.Tests.{eqb-true}
use lib.Dec.{eqb}
use Rattle.spans.specs.Work.{Working, BatchesOn, letter_runs, letter_step, all_steps}

module _ (kind : Batch) (letter : Letter) (c : Constraint) (batch : List Measured) (lines : List Line) (start planned : List ℕ)
    (none : start ≡ replicate (length lines) 0) (told : planned ≡ in_turn (increased_by (shares_in kind) (letter_of letter) c lines) batch start) where
  planned-is : planned ≡ increases (shares_in kind) (letter_of letter) c batch lines
  unfolding increases
  planned-is =
      told
      ∙ ap (in_turn (increased_by (shares_in kind) (letter_of letter) c lines) batch) none

  pub length-planned : length planned ≡ length lines
  length-planned = ap length planned-is ∙ length-increases (shares_in kind) (letter_of letter) c batch lines

  module _ (n : ℕ) (fits : LinesFit lines) (items : MeasuredFit n batch) where
    -- what the letter's end asks
    pub planned-fit : (i : ℕ) (d : Line) → i < length lines → (letter_of letter).present (get_or lines i d) + get_or planned i 0 ≤ most
    planned-fit i d h = rw planned-is (increases-applicable kind letter c n batch lines fits items i d h)

    pub raised_is : (ls : List Line) → ls ≡ zip_with (letter_of letter).grown lines planned
        → (ls ≡ raise (shares_in kind) c batch (letter_of letter) lines) × LinesFit ls
    unfolding raise
    raised_is ls e =
        let r : ls ≡ raise (shares_in kind) c batch (letter_of letter) lines = e ∙ ap (zip_with (letter_of letter).grown lines) planned-is in
        (r, subst LinesFit (sym r) (raise-fits kind letter c n batch lines fits items))

  -- where nothing was planned, lines that stay without an increase stay
  pub not-raised : planned ≡ start → zip_with (letter_of letter).grown lines (replicate (length lines) 0) ≡ lines
      → lines ≡ raise (shares_in kind) c batch (letter_of letter) lines
  unfolding raise
  not-raised same stay =
      sym stay
      ∙ ap (zip_with (letter_of letter).grown lines) (sym none ∙ sym same ∙ planned-is)

-- ---- letter by letter

module _ (kind : Batch) (letter : Letter) (c : Constraint) (batch : List Measured) (ls : List Line) where
  -- a letter that is not run changes nothing
  pub step_left : {b : Bool} → b ≡ letter_runs kind c letter → b ≡ false → ls ≡ letter_step kind c batch letter ls
  unfolding letter_step
  step_left e f = rw (sym e ∙ f) refl

  pub step-taken : {b : Bool} (out : List Line) → b ≡ letter_runs kind c letter → b ≡ true
      → out ≡ raise (shares_in kind) c batch (letter_of letter) ls → out ≡ letter_step kind c batch letter ls
  unfolding letter_step
  step-taken out e f r = rw (sym e ∙ f) r

-- all steps are the letters of the batch
steps_all : (kind : Batch) (c : Constraint) (batch : List Measured) (ls : List Line) → all_steps kind c batch ls ≡ in_turn (raise (shares_in kind) c batch) (letters_in kind c) ls
unfolding letter_step in_turn
steps_all OfSpan (Definite n) batch ls = refl
steps_all OfSpan MinContent batch ls = refl
steps_all OfSpan MaxContent batch ls = refl
steps_all Last (Definite n) batch ls = refl
steps_all Last MinContent batch ls = refl
steps_all Last MaxContent batch ls = refl

pub batch-of-steps : (kind : Batch) (c : Constraint) (batch : List Measured) (ls out : List Line) → eqb (length batch) 0 ≡ false
    → out ≡ all_steps kind c batch ls → out ≡ batched_in kind c batch ls
unfolding batched
batch-of-steps kind c [] ls out e r = absurd (true≢false e)
batch-of-steps kind c (i ∷ is) ls out e r = r ∙ steps_all kind c (i ∷ is) ls

-- no item, no change
pub batch-of-none : (kind : Batch) (c : Constraint) (batch : List Measured) (ls : List Line) → eqb (length batch) 0 ≡ true → ls ≡ batched_in kind c batch ls
unfolding batched
batch-of-none kind c [] ls e = refl
batch-of-none kind c (i ∷ is) ls e = let n = eqb-true (length (i ∷ is)) 0 e in absurd (omega arith)

-- ---- the working store between letters

pub working-after : {lines lines' : List Line} {sums sums' : List Totals} {increases increases' gains gains' rests rests' : List ℕ} → Working lines increases gains rests sums
    → length lines' ≡ length lines → length gains' ≡ length gains → length rests' ≡ length rests → LinesFit (lines') → increases' ≡ replicate (length lines) 0
    → sums' ≡ tallied (lines') → Working lines' increases' gains' rests' sums'
working-after {lines} {lines'} w l g r f z t =
    let few = w.few in
    record {
      few = omega arith;
      fit = f;
      none = zeros-as {m = length lines} {n = length lines'} z (sym l);
      gains-long = g ∙ w.gains-long ∙ sym l;
      rests-long = r ∙ w.rests-long ∙ sym l;
      totals = t;
    }

pub batches-on-as : {m n : ℕ} (bs : List (List Measured)) → m ≡ n → BatchesOn n bs → BatchesOn m bs
batches-on-as bs e f = rw e f
