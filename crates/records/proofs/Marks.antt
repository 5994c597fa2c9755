-- The marks of a space, its stretch byte and its axis byte: the listed ones are those below 2. Assumes nothing.
use mathlib.Core.Path.{◌≡◌, refl, sym, ◌∙◌}
use Prim.Native.Nat.{ℕ, zero, suc}
use native.Mathlib.Omega.{arith}
use mathlib.Core.List.{[], ◌∷◌}
use lib.Dec.{ltb}
use borrow.Author.Tests.{le-ltb, ne_eqb}
use Rattle.laws.specs.Lists.{among}

pub below-two-is-listed : (byte : ℕ) → ltb byte 2 ≡ among (0 ∷ 1 ∷ []) byte
unfolding among
below-two-is-listed zero = refl
below-two-is-listed (suc zero) = refl
below-two-is-listed (suc (suc n)) =
    le-ltb (suc (suc n)) 2 (omega arith) ∙ sym (simp (ne_eqb (suc (suc n)) 0 (λ e. omega arith), ne_eqb (suc (suc n)) 1 (λ e. omega arith)))
