-- What the code's survey finds, in the words of the rests. Assumes nothing.
use Rattle.std.specs.Prelude.{ℕ, List}
use Rattle.rounds.specs.Rests.{open_rests, least_rest}
use Rattle.rounds.specs.declared.rests.Found as code

-- what the walks over the rests find
abbrev pub found_in : ℕ → List ℕ → code.Found
found_in most xs = record { count = open_rests xs; least = least_rest most xs }
