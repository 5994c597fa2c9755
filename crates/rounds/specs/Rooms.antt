-- A room that code holds as an Option, in the words of the rule: so many dots, or no limit. Assumes nothing.
use Rattle.std.specs.Prelude.{ℕ, Option, Some, None}
use Rattle.rounds.specs.Rule.{Room, up_to, no_limit}

abbrev pub room_in : Option ℕ → Room
room_in (Some dots) = up_to dots
room_in None = no_limit
