-- The difference of two numbers as 32 bits say it, exact around zero and at both ends of their range. Assumes nothing.
use mathlib.Core.Path.{◌≡◌, refl, ap, subst}
use mathlib.Core.Logic.{⊎_elim}
use Prim.Native.Nat.{ℕ, zero, suc, ◌+◌, ◌-◌, ◌≤◌, ◌<◌}
use native.Mathlib.Nat.{zero-add}
use native.Mathlib.Omega.{arith}
use lib.IntN.{pos, negsuc, sub_ℕ, ◌-ℤ◌}
use borrow.Author.Tests.{lt-ltb, le-ltb}
use mir.Syntax.{w32}
use mir.Val.{SFits}
use Rattle.laws.specs.Tests.{lt-or-ge}
use Rattle.sizing.specs.Size.{most_free, most_lacking}

-- not below zero
pub pos-sub : (a b : ℕ) → b ≤ a → pos (a - b) ≡ sub_ℕ a b
pos-sub a b h = rw (le-ltb a b h) refl

pub pos-fits : (a b : ℕ) → a ≤ b + most_free → SFits w32 (pos (a - b))
pos-fits a b h = record { sfits = omega arith }

-- below zero: one less than the negative of what is behind it
minus_one : (k : ℕ) → negsuc 0 -ℤ pos k ≡ negsuc k
minus_one zero = refl
minus_one (suc k) = ap (λ (n : ℕ). negsuc (suc n)) (zero-add k)

pub neg-sub : (a b : ℕ) → a < b → negsuc 0 -ℤ pos (b - a - 1) ≡ sub_ℕ a b
neg-sub a b h = let e : b - a - 1 ≡ b - suc a = omega arith in rw (minus_one (b - a - 1), lt-ltb a b h, e) refl

pub neg-fits : (a b : ℕ) → a < b → b ≤ a + most_lacking → SFits w32 (negsuc 0 -ℤ pos (b - a - 1))
neg-fits a b h k = rw (minus_one (b - a - 1)) (record { sfits = omega arith })

pub sub-fits : (a b : ℕ) → a ≤ b + most_free → b ≤ a + most_lacking → SFits w32 (sub_ℕ a b)
sub-fits a b h k =
    ⊎_elim
    (λ (l : a < b). subst (SFits w32) (neg-sub a b l) (neg-fits a b l k))
    (λ (l : b ≤ a). subst (SFits w32) (pos-sub a b l) (pos-fits a b h))
    (lt-or-ge a b)
