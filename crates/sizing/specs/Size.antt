-- What the sizing asks of a board that has passed the checks, its free space in the words of the rule, and steps 5 to 7 as the code goes
-- about them. Assumes nothing.
use Rattle.std.specs.Prelude.{ℕ, ℤ, ◌+◌, ◌-◌, ◌≤◌, Bool, List, map, length, Option, Some, None}
use Rattle.rounds.specs.Rule.{most_tracks, most_dots}
use Rattle.kinds.specs.Kinds.{Row, track_of, item_of}
use Rattle.spanned.specs.Sound.{ConstraintFits, Sound}
use Rattle.laws.specs.Lists.{All}
use Rattle.lines.specs.declared.line.Line.{Line}
use Rattle.lines.specs.Rule.{FreeTold, none, dots, Board, Maximised, bases, expand, stretched, size}
use Rattle.lines.specs.declared.measured.Measured.{Measured}
use Rattle.letters.specs.Letters.{most}
use Rattle.flexible.specs.Flexes.{fr_over}
use Rattle.kinds.specs.declared.constraint.Constraint.{Constraint}
use Rattle.kinds.specs.declared.constraint.Constraint.TheVariants.{Definite, MinContent, MaxContent}
use Rattle.sizing.specs.declared.Sized.{Sized}

abbrev pub free_told : Option ℤ → FreeTold
free_told None = none
free_told (Some d) = dots d

-- no number over its limit, every item on tracks that are there, and no more tracks than a board has
pub record Sizable (constraint expansion : Constraint) (tracks items : List Row) : Type 0 where
  pub few : length tracks ≤ most_tracks
  pub constraint-fits : ConstraintFits constraint
  pub expansion-fits : ConstraintFits expansion
  pub sound : Sound (map track_of tracks) (map item_of items)

-- what the code tells, and the sizes that it leaves, as the rule's board has them
abbrev pub board_of : Sized → List Row → Board
board_of done sizes = record { sizes = sizes; free = free_told done.free; rounds = done.rounds }

abbrev pub size_rows : (constraint expansion : Constraint) (asked : Bool) → List Row → List Row → Board
size_rows constraint expansion asked tracks items = size constraint expansion asked (map track_of tracks) (map item_of items)

-- a line and what step 5 may say of it
abbrev pub maximised : List Line → ℕ → Maximised
maximised lines rounds = record { lines = lines; rounds = rounds }

-- bases that the dots of a space can still be added to
abbrev pub most_base : ℕ
most_base = most - most_dots

abbrev pub BasesFit : List Line → Type 0
BasesFit = All (λ (l : Line). l.base ≤ most_base)

-- the ends of what 32 bits say with a sign
abbrev pub most_free : ℕ
most_free = 2147483647

abbrev pub most_lacking : ℕ
most_lacking = 2147483648

-- the sum of sizes leaves a free space that 32 bits can say
abbrev pub FreeFits : Constraint → List Line → Type 0
FreeFits (Definite n) ls = bases ls ≤ n + most_lacking
FreeFits MinContent ls = Unit {0}
FreeFits MaxContent ls = Unit {0}

-- steps 6 and 7 with the batch of the items that cross an fr track
abbrev pub finished_lines : (expansion : Constraint) (asked : Bool) → List Measured → List Line → List Line
finished_lines e asked batch ls = stretched asked e (expand (fr_over e batch ls) ls)
