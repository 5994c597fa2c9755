-- The bytes of a text by kind. Assumes nothing.
use Rattle.std.specs.Prelude.{ℕ, Bool, not, ◌&&◌, ◌||◌, List, eqb, leb, length, get_or}
use Rattle.texts.specs.declared.runs.Run.{Run}
use Rattle.texts.specs.declared.runs.Run.TheVariants.{Blanks, Digits, Line}

-- blanks are blanks and line ends, digits 0 to 9, and a line whatever is no line end
abbrev pub run_has : Run → ℕ → Bool
run_has Blanks byte = eqb byte 32 || eqb byte 10
run_has Digits byte = leb 48 byte && leb byte 57
run_has Line byte = not (eqb byte 10)

-- a number ends at a blank, a line end or the end of the text
abbrev pub is_end : List ℕ → ℕ → Bool
is_end text at = leb (length text) at || run_has Blanks (get_or text at 0)
