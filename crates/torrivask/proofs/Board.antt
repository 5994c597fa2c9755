-- What `torrivask_board` answers and writes, by what the board told. Assumes nothing.
use Prim.Native.Nat.{ℕ}
use mathlib.Core.Path.{◌≡◌, refl}
use mathlib.Core.Bool.{Bool, false}
use mathlib.Core.List.{List}
use lib.IntN.{ℤ}
use Rattle.kinds.specs.Kinds.{Row}
use Rattle.std.specs.Prelude.{Result, Ok, None}
use Rattle.layout.specs.declared.Board.{Board}
use Rattle.board.specs.Rule.{BoardOutcome}
use Rattle.board.specs.Answer.{board_leaves}
use Rattle.board.specs.declared.refusal.Refusal.{Refusal}
use Rattle.torrivask.specs.Board.{board_left, board_face}

module _ (answer : Result Board Refusal) (sizes : List Row) (call : BoardOutcome) (is : board_leaves answer sizes ≡ call)
    (tracks : ℕ) (definite : Bool) (free : ℤ) (rounds place : ℕ) where
  pub board-writes-none : (b : Board) → answer ≡ Ok b → b.free ≡ None
      → board_left 0 sizes b.tracks false free b.rounds place ≡ board_face call tracks definite free rounds place
  board-writes-none b gives has = rw (← is, gives, has) refl
