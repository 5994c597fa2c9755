-- The code's letters, and its tests of kinds, in the words of the rule. Assumes nothing.
use Rattle.std.specs.Prelude.{ℕ, Bool, true, false, Some, None}
use Rattle.kinds.specs.declared.track.Minimum.{Minimum}
use Rattle.kinds.specs.declared.track.Minimum.TheVariants as minimum
use Rattle.kinds.specs.declared.track.Maximum.{Maximum}
use Rattle.kinds.specs.declared.track.Maximum.TheVariants as maximum
use Rattle.lines.specs.Rule.{Limit, letter_a, letter_b, letter_c, letter_d, letter_e, letter_f}
use Rattle.lines.specs.Rule as rule
use Rattle.letters.specs.declared.letter.Letter.{Letter}
use Rattle.letters.specs.declared.letter.Letter.TheVariants.{A, B, C, D, E, F}

abbrev pub letter_of : Letter → rule.Letter
letter_of A = letter_a
letter_of B = letter_b
letter_of C = letter_c
letter_of D = letter_d
letter_of E = letter_e
letter_of F = letter_f

-- whether it may change a line that gets no increase
abbrev pub changes_unraised : Letter → Bool
changes_unraised A = false
changes_unraised B = false
changes_unraised C = false
changes_unraised D = true
changes_unraised E = true
changes_unraised F = true

abbrev pub by_minimum : Minimum → Bool → Bool → Bool → Bool
by_minimum (minimum.Fixed n) auto least most = false
by_minimum minimum.Auto auto least most = auto
by_minimum minimum.MinContent auto least most = least
by_minimum minimum.MaxContent auto least most = most

abbrev pub by_maximum : Maximum → Bool → Bool → Bool → Bool
by_maximum (maximum.Fixed n) wide least fit = false
by_maximum maximum.Auto wide least fit = wide
by_maximum maximum.MinContent wide least fit = least
by_maximum maximum.MaxContent wide least fit = wide
by_maximum (maximum.FitContent n) wide least fit = fit
by_maximum (maximum.Fr n) wide least fit = false

-- the most that a number of 32 bits says
abbrev pub most : ℕ
most = 4294967295

-- the number of a maximum that is fixed or fit-content
abbrev pub fixed_maximum : Maximum → Limit
fixed_maximum (maximum.Fixed n) = Some n
fixed_maximum maximum.Auto = None
fixed_maximum maximum.MinContent = None
fixed_maximum maximum.MaxContent = None
fixed_maximum (maximum.FitContent n) = Some n
fixed_maximum (maximum.Fr n) = None
