-- The factors of lines in the share by factor, as the code loads them. Assumes nothing.
use Rattle.std.specs.Prelude.{ℕ, ◌≤◌, List, map, get_or}
use Rattle.spanned.specs.Rule.{most_factor}
use Rattle.lines.specs.declared.line.Line.{Line}
use Rattle.lines.specs.ByFactor.{counted}
use Rattle.lines.specs.Rule.{number, affects_fr}
use Rattle.letters.specs.declared.letter.Letter.{Letter}
use Rattle.letters.specs.Letters.{letter_of}

-- a line's factor, where it counts
abbrev pub line_factor : Letter → Line → ℕ
line_factor letter l = counted (affects_fr (letter_of letter) l) (number l)

abbrev pub line_factors : Letter → List Line → List ℕ
line_factors letter lines = map (line_factor letter) lines

abbrev pub FactorsFit : List ℕ → Type 0
FactorsFit factors = (i : ℕ) → get_or factors i 0 ≤ most_factor
