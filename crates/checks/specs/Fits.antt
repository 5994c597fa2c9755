-- What a space without fault gives to who sizes its board. Assumes nothing.
use Rattle.std.specs.Prelude.{◌≤◌}
use Rattle.rounds.specs.Rule.{most_dots}
use Rattle.kinds.specs.Kinds.{amount_number}
use Rattle.sheet_kinds.specs.declared.space.Space.{Space}
use Rattle.spanned.specs.Sound.{ConstraintFits}

abbrev pub SpaceFits : Space → Type 0
SpaceFits s = ConstraintFits s.constraint × (amount_number s.inner ≤ most_dots)
