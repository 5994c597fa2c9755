-- The increases beside the lines: when they can be applied, and what that makes of the lines. Assumes nothing.
use Rattle.std.specs.Prelude.{◌≡◌, ℕ, ◌+◌, ◌≤◌, ◌<◌, length, get_or, replicate}
use mathlib.Core.List.{List, zip_with}
use Rattle.lines.specs.declared.line.Line.{Line}
use Rattle.letters.specs.declared.letter.Letter.{Letter}
use Rattle.letters.specs.declared.letter.Letter.TheVariants.{A}
use Rattle.letters.specs.Letters.{letter_of, most}

-- no increase is planned for any line
abbrev pub NoIncrease : {A : Type 0} → List A → List ℕ → Type 0
NoIncrease lines increases = increases ≡ replicate (length lines) 0

-- one for each line, and none takes the size that the letter raises past what 32 bits say
pub record Applicable (letter : Letter) (lines : List Line) (increases : List ℕ) : Type 0 where
  pub long : length increases ≡ length lines
  pub fits : (i : ℕ) (d : Line) → i < length lines → (letter_of letter).present (get_or lines i d) + get_or increases i 0 ≤ most

-- where bases are raised
abbrev pub BasesApplicable : List Line → List ℕ → Type 0
BasesApplicable = Applicable A

-- every line, grown by its increase
abbrev pub applied : Letter → List Line → List ℕ → List Line
applied letter lines increases = zip_with (letter_of letter).grown lines increases
