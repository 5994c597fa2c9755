-- The code's answer in the words of the rule. Assumes nothing.
use Rattle.std.specs.Prelude.{List, ℕ, ◌≤◌, length, Option, Some, None}
use Rattle.kinds.specs.Kinds.{Row}
use Rattle.board.specs.Rule.{BoardTold, board, refused}
use Rattle.printed.specs.Rule.{PrintTold, printed, no_room, PrintOutcome, print_outcome}

abbrev pub print_told : Option ℕ → PrintTold
print_told (Some length) = printed length
print_told None = no_room

abbrev pub print_leaves : Option ℕ → List ℕ → PrintOutcome
print_leaves answer bytes = print_outcome (print_told answer) bytes

-- the tracks that are told have sizes
abbrev pub TracksWithin : BoardTold → List Row → Type 0
TracksWithin (board tracks free rounds) sizes = tracks ≤ length sizes
TracksWithin (refused number place) sizes = Unit {0}
