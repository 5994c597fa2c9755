-- The one claim over the table of marked examples: the checker computes every row. Assumes nothing.
use Rattle.std.specs.Prelude.{◌≡◌, refl, true}
use Rattle.marked.specs.Table.{table, all_hold}

pub marked-hold : all_hold table ≡ true
unfolding all_hold
marked-hold = refl
