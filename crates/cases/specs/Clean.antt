-- When a run over the cases of a text is clean. Assumes nothing.
use Rattle.std.specs.Prelude.{Bool, false, ◌&&◌, ltb, eqb, Result, Ok, Err}
use Rattle.texts.specs.declared.fault.Stop.{Stop}
use Rattle.cases.specs.declared.tally.Tally.{Tally}

-- reading stopped at no fault, there was a case, and none differs
abbrev pub is_clean : Result Tally Stop → Bool
is_clean (Ok tally) = ltb 0 tally.cases && eqb tally.differ 0
is_clean (Err stop) = false
