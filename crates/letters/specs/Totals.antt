-- Running totals of bases and of limits, before each line and behind the last. Assumes nothing.
use Rattle.std.specs.Prelude.{ℕ, ◌+◌, List, [], ◌∷◌}
use Rattle.lines.specs.declared.line.Line.{Line}
use Rattle.lines.specs.Rule.{limit_size}
use Rattle.letters.specs.declared.letter.Letter.{Letter}
use Rattle.letters.specs.declared.letter.Letter.TheVariants.{A, B, C, D, E, F}
use Rattle.letters.specs.declared.totals.Totals.{Totals}

abbrev pub totals : (bases limits : ℕ) → Totals
totals bases limits = record { bases = bases; limits = limits }

-- a line more
abbrev pub with_line : Totals → Line → Totals
with_line t l = totals (t.bases + l.base) (t.limits + limit_size l)

-- from so many dots of bases and of limits on
unfoldable pub tally_from : Totals → List Line → List Totals
tally_from t [] = t ∷ []
tally_from t (l ∷ ls) = t ∷ tally_from (with_line t l) ls

abbrev pub tallied : List Line → List Totals
tallied ls = tally_from (totals 0 0) ls

-- the total that a letter reads: (a) to (d) measure against bases, (e) and (f) against limits
abbrev pub total_in : Letter → Totals → ℕ
total_in A t = t.bases
total_in B t = t.bases
total_in C t = t.bases
total_in D t = t.bases
total_in E t = t.limits
total_in F t = t.limits
