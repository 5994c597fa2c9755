-- Two answers that tell the same are the same, so a call's promise leaves one. Assumes nothing.
use mathlib.Core.Path.{◌≡◌, refl, ap}
use Rattle.printed.specs.Answer.{print_told}
use Prim.Native.Nat.{ℕ}
use Rattle.std.specs.Prelude.{Option, Some, None}

pub answer-of-told : (a b : Option ℕ) → print_told a ≡ print_told b → a ≡ b
answer-of-told (Some n) (Some m) e = ap Some (cc)
answer-of-told (Some n) None e = cc
answer-of-told None (Some m) e = cc
answer-of-told None None e = refl
