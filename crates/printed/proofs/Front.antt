-- What is printed of an input is decided by its first bytes, one more than the longest sheet has. Assumes nothing.
use mathlib.Core.Path.{◌≡◌, ap}
use mathlib.Core.List.{List}
use Prim.Native.Nat.{ℕ, ◌+◌}
use lib.ListN.{take}
use Rattle.sheet.specs.Rule.{longest}
use Rattle.board.proofs.Front.{board-of-front}
use Rattle.printed.specs.Rule.{outcome_text, own_sizes, sheet_text}

pub text-of-front : (bytes : List ℕ) → sheet_text (take (longest + 1) bytes) ≡ sheet_text bytes
text-of-front bytes = ap outcome_text (board-of-front bytes own_sizes)
