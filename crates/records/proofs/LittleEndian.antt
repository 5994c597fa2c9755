-- Numbers of two and four bytes: the bytes of a number say it, and bytes are those of the number that they say. Assumes nothing.
use mathlib.Core.Path.{◌≡◌, refl, ◌∙◌}
use Prim.Native.Nat.{ℕ, ◌+◌, ◌*◌, ◌/◌, ◌%◌, ◌<◌}
use native.Mathlib.Nat.{add-mul-mod_self_left, add-mul-div_left, mod-eq_of_lt, div-eq_of_lt}
use native.Mathlib.Omega.{arith}
use mathlib.Core.List.{[], ◌∷◌, ◌++◌}
use lib.ListN.{length}
use Rattle.records.specs.Rule.{two_bytes, four_bytes}

-- ---- a lower and an upper half

module _ (a b m : ℕ) (h : a < m) where
  pub mod-of-halves : (a + m * b) % m ≡ a
  mod-of-halves = add-mul-mod_self_left a m b ∙ mod-eq_of_lt h

  pub div-of-halves : (a + m * b) / m ≡ b
  div-of-halves = add-mul-div_left a b (omega arith) ∙ rw (div-eq_of_lt h) (omega arith)

-- ---- bytes

pub two_bytes-of-bytes : (a b : ℕ) → a < 256 → two_bytes (a + 256 * b) ≡ a ∷ b ∷ []
unfolding two_bytes
two_bytes-of-bytes a b h = rw (mod-of-halves a b 256 h, div-of-halves a b 256 h)

pub four_bytes-of-halves : (x y : ℕ) → x < 65536 → four_bytes (x + 65536 * y) ≡ two_bytes x ++ two_bytes y
unfolding four_bytes
four_bytes-of-halves x y h = rw (mod-of-halves x y 65536 h, div-of-halves x y 65536 h)

pub length-two_bytes : (n : ℕ) → length (two_bytes n) ≡ 2
unfolding two_bytes
length-two_bytes n = refl

pub length-four_bytes : (n : ℕ) → length (four_bytes n) ≡ 4
unfolding four_bytes two_bytes
length-four_bytes n = refl
