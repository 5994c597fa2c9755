-- What Rust's standard library promises of `f32::min`, `f32::max` and `min_by` with `f32::total_cmp`, and what the routines write instead. Assumes nothing.
use Rattle.std.specs.Prelude.{◌≡◌, ◌⊎◌, Bool, true, false, not, cond, ℕ, ◌+◌, ◌-◌, ◌^◌, ltb, leb, Float}
use mathlib.Core.List.{List, foldl}
use Rattle.std.specs.Float.Ieee as Ieee
use Rattle.std.specs.Float.{nan, inf, fin, binary32}
use Rattle.std.specs.Float.Ieee.{to_bits, is_nan}
use Rattle.float_laws.specs.Numbers.{IsF32}

-- no NaN, and the sign bit is clear
abbrev pub clear : Float → Bool
clear nan = false
clear (inf s) = not s
clear (fin s m e) = not s

-- x is an f32, no NaN, and its sign bit is clear
abbrev pub IsClear : Float → Type 0
IsClear x = IsF32 x × (clear x ≡ true)

-- ---- what the routines write

-- `if a < b { a } else { b }`
abbrev pub min_of : Float → Float → Float
min_of a b = cond (Ieee.lt a b) a b

-- `if a < b { b } else { a }`
abbrev pub max_of : Float → Float → Float
max_of a b = cond (Ieee.lt a b) b a

-- ---- `f32::min` and `f32::max`

-- what `a.min(b)` may be: of a NaN and another the other, else the smaller, and either one where they compare equal, as +0.0 and -0.0 do
pub record MinAllows (a b r : Float) : Type 0 where
  pub first-nan : is_nan a ≡ true → r ≡ b
  pub second-nan : is_nan b ≡ true → r ≡ a
  pub first-less : Ieee.lt a b ≡ true → r ≡ a
  pub second-less : Ieee.lt b a ≡ true → r ≡ b
  pub equal : Ieee.eq a b ≡ true → (r ≡ a) ⊎ (r ≡ b)

-- what `a.max(b)` may be: the same with the larger
pub record MaxAllows (a b r : Float) : Type 0 where
  pub first-nan : is_nan a ≡ true → r ≡ b
  pub second-nan : is_nan b ≡ true → r ≡ a
  pub first-less : Ieee.lt a b ≡ true → r ≡ b
  pub second-less : Ieee.lt b a ≡ true → r ≡ a
  pub equal : Ieee.eq a b ≡ true → (r ≡ a) ⊎ (r ≡ b)

-- ---- `f32::total_cmp` and `min_by`

-- `total_cmp` flips the lower 31 bits of a pattern whose sign bit is set, and compares as i32. This is that i32 with 2 ^ 31 added, so that it is no less than 0.
-- A NaN has no pattern of its own in this text, so the key is Rust's only where x is no NaN.
abbrev pub key_of_bits : ℕ → ℕ
key_of_bits b = cond (leb (2 ^ 31) b) (2 ^ 31 - 1 - (b - 2 ^ 31)) (2 ^ 31 + b)

abbrev pub total_key : Float → ℕ
total_key x = key_of_bits (to_bits binary32 x)

-- the later one where its key is below, else the earlier one: `min_by` keeps the earlier of two that compare equal
abbrev pub earlier_least : Float → Float → Float
earlier_least best x = cond (ltb (total_key x) (total_key best)) x best

-- `min_by(|a, b| a.total_cmp(b))` of the list that begins with x
abbrev pub min_by_total : Float → List Float → Float
min_by_total x xs = foldl earlier_least x xs
