-- The working store of the steps on spans, what a letter's plan leaves in it, and one batch as the code goes about it. Assumes nothing.
use Rattle.std.specs.Prelude.{◌≡◌, ℕ, ◌-◌, ◌<◌, ◌≤◌, Bool, true, false, cond, List, [], ◌∷◌, length, get_or, Some, None}
use Rattle.rounds.specs.Rule.{most_tracks}
use Rattle.kinds.specs.declared.constraint.Constraint.{Constraint}
use Rattle.kinds.specs.declared.constraint.Constraint.TheVariants.{Definite, MinContent, MaxContent}
use Rattle.laws.specs.Lists.{All, up_from, in_turn}
use Rattle.lines.specs.declared.line.Line.{Line}
use Rattle.letters.specs.declared.totals.Totals.{Totals}
use Rattle.lines.specs.declared.measured.Measured.{Measured}
use Rattle.lines.specs.Rule.{Limit, increased_by, raise}
use Rattle.lines.specs.Fits.{LinesFit, MeasuredFit}
use Rattle.lines.specs.Chains.{batches}
use Rattle.letters.specs.declared.letter.Letter.{Letter}
use Rattle.letters.specs.declared.letter.Letter.TheVariants.{A, B, C, D, E, F}
use Rattle.letters.specs.Letters.{letter_of}
use Rattle.letters.specs.declared.batch.Batch.{Batch}
use Rattle.letters.specs.declared.batch.Batch.TheVariants.{OfSpan, Last}
use Rattle.letters.specs.Batches.{shares_in, batched_in}
use Rattle.letters.specs.Increases.{NoIncrease}
use Rattle.letters.specs.Totals.{tallied}

-- while a letter is planned: the lines fit, beside each are an increase and scratch, and the sums are the lines' totals
pub record Planning (lines : List Line) (increases gains rests : List ℕ) (sums : List Totals) : Type 0 where
  pub few : length lines ≤ most_tracks
  pub fit : LinesFit lines
  pub increases-long : length increases ≡ length lines
  pub gains-long : length gains ≡ length lines
  pub rests-long : length rests ≡ length lines
  pub totals : sums ≡ tallied lines

-- what a plan leaves: what the items of a batch give is laid over the increases, which are as before where no item gives anything
pub record Planned (kind : Batch) (letter : Letter) (c : Constraint) (lines : List Line) (batch : List Measured) (before after : List ℕ) (given : Bool) : Type 0 where
  pub laid : after ≡ in_turn (increased_by (shares_in kind) (letter_of letter) c lines) batch before
  pub nothing : given ≡ false → after ≡ before

-- between letters: the same, and no increase is planned
pub record Working (lines : List Line) (increases gains rests : List ℕ) (sums : List Totals) : Type 0 where
  pub few : length lines ≤ most_tracks
  pub fit : LinesFit lines
  pub none : NoIncrease lines increases
  pub gains-long : length gains ≡ length lines
  pub rests-long : length rests ≡ length lines
  pub totals : sums ≡ tallied lines

-- ---- Lines at rest, as they are between batches: no limit is below its base, none is infinitely growable

abbrev pub IsAbove : ℕ → Limit → Type 0
IsAbove base None = Unit {0}
IsAbove base (Some n) = base ≤ n

abbrev pub AtRest : Line → Type 0
AtRest l = IsAbove l.base l.limit × (l.growable ≡ false)

abbrev pub Calm : List Line → Type 0
Calm = All AtRest

-- ---- Letter by letter

abbrev pub is_max_content : Constraint → Bool
is_max_content (Definite n) = false
is_max_content MinContent = false
is_max_content MaxContent = true

-- (e) and (f) are run in the batches of a span alone
abbrev pub raises_limits_in : Batch → Bool
raises_limits_in OfSpan = true
raises_limits_in Last = false

-- and (c) under max-content only
abbrev pub letter_runs : Batch → Constraint → Letter → Bool
letter_runs kind c A = true
letter_runs kind c B = true
letter_runs kind c C = is_max_content c
letter_runs kind c D = true
letter_runs kind c E = raises_limits_in kind
letter_runs kind c F = raises_limits_in kind

unfoldable pub letter_step : Batch → Constraint → List Measured → Letter → List Line → List Line
letter_step kind c batch letter ls = cond (letter_runs kind c letter) (raise (shares_in kind) c batch (letter_of letter) ls) ls

-- letters one after another
abbrev pub letter_steps : Batch → Constraint → List Measured → List Letter → List Line → List Line
letter_steps kind c batch = in_turn (letter_step kind c batch)

-- all that a batch has
abbrev pub all_steps : Batch → Constraint → List Measured → List Line → List Line
all_steps kind c batch ls = letter_steps kind c batch (E ∷ F ∷ []) (letter_steps kind c batch (A ∷ B ∷ C ∷ D ∷ []) ls)

-- ---- Batch by batch

-- every batch but the first fits a board of n tracks
pub record BatchesOn (n : ℕ) (bs : List (List Measured)) : Type 0 where
  pub long : length bs ≡ batches n
  pub fit : (k : ℕ) → 0 < k → k < batches n → MeasuredFit n (get_or bs k [])

-- in rising span
abbrev pub longer_lines : Constraint → List (List Measured) → List Line → List Line
longer_lines c bs lines = in_turn (λ (k : ℕ). batched_in OfSpan c (get_or bs k [])) (up_from 2 (length lines - 1)) lines
