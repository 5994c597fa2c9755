-- What `torrivask_board` leaves: its answer, and what then stands in everything that was lent to be written. Assumes nothing.
use Rattle.std.specs.Prelude.{ℕ, Bool, true, false, List, ℤ}
use Rattle.kinds.specs.Kinds.{Row}
use Rattle.lines.specs.Rule.{none, dots}
use Rattle.board.specs.Rule.{BoardTold, board, refused, BoardOutcome}

pub record BoardLeft : Type 0 where
  pub code : ℕ
  pub sizes : List Row
  pub tracks : ℕ
  pub definite : Bool
  pub free : ℤ
  pub rounds : ℕ
  pub place : ℕ

abbrev pub board_left : ℕ → List Row → ℕ → Bool → ℤ → ℕ → ℕ → BoardLeft
board_left code sizes tracks definite free rounds place =
    record { code = code; sizes = sizes; tracks = tracks; definite = definite; free = free; rounds = rounds; place = place }

-- Only a refusal writes the place. A board writes all else, but a free space only where there is one.
abbrev pub board_writes : BoardTold → List Row → (tracks : ℕ) → (definite : Bool) → (free : ℤ) → (rounds place : ℕ) → BoardLeft
board_writes (board n (dots d) passes) sizes tracks definite free rounds place = board_left 0 sizes n true d passes place
board_writes (board n none passes) sizes tracks definite free rounds place = board_left 0 sizes n false free passes place
board_writes (refused number at) sizes tracks definite free rounds place = board_left number sizes tracks definite free rounds at

-- what the call left, over what stood there before
abbrev pub board_face : BoardOutcome → (tracks : ℕ) → (definite : Bool) → (free : ℤ) → (rounds place : ℕ) → BoardLeft
board_face outcome = board_writes outcome.told outcome.sizes
