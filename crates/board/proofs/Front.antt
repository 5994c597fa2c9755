-- What decides a board's answer is in the sheet's first longest + 1 bytes, as it is for reading. Assumes nothing.
use mathlib.Core.Path.{◌≡◌}
use mathlib.Core.List.{List}
use Prim.Native.Nat.{ℕ, ◌+◌}
use lib.ListN.{take}
use Rattle.kinds.specs.Kinds.{Row}
use Rattle.sheet.specs.Rule.{longest}
use Rattle.sheet.proofs.Front.{decided-by-front}
use Rattle.board.specs.Rule.{board_call}

pub board-of-front : (bytes : List ℕ) (sizes : List Row) → board_call (take (longest + 1) bytes) sizes ≡ board_call bytes sizes
unfolding board_call
board-of-front bytes sizes = decided-by-front bytes (λ (b : List ℕ). board_call b sizes) (λ b c number place e f. rw (e, f))
