-- A turn and the end of the count of the marked places. Assumes nothing.
use mathlib.Core.Path.{◌≡◌, refl, ap}
use mathlib.Core.Bool.{Bool, true, false}
use mathlib.Core.List.{List, [], ◌∷◌}
use Prim.Native.Nat.{ℕ, ◌+◌, ◌≤◌, ◌<◌}
use native.Mathlib.Omega.{arith}
use lib.ListN.{length, get_or, drop, drop_of_length-le}
use mir.Val.{bool_byte}
use Rattle.laws.specs.Marks.{bit, number}
use Rattle.laws.specs.Walk.{next}

bit-byte : (b : Bool) → bit b ≡ bool_byte b
bit-byte true = refl
bit-byte false = refl

pub byte-le-one : (b : Bool) → bool_byte b ≤ 1
byte-le-one true = omega arith
byte-le-one false = omega arith

pub bit-le-one : (b : Bool) → bit b ≤ 1
bit-le-one true = omega arith
bit-le-one false = omega arith

module _ (marks : List Bool) (i count w : ℕ) where
  pub number_step : i < length marks → count + number (drop i marks) ≡ w → count + bool_byte (get_or marks i false) + number (drop (i + 1) marks) ≡ w
  unfolding number
  number_step h e =
      let q : number (drop i marks) ≡ bit (get_or marks i false) + number (drop (i + 1) marks) = ap number (next marks i false h) in
      let b = bit-byte (get_or marks i false) in
      omega arith

  pub number-end : length marks ≤ i → count + number (drop i marks) ≡ w → count ≡ w
  unfolding number
  number-end h e = let q : number (drop i marks) ≡ 0 = ap number (drop_of_length-le marks h) in omega arith

pub number-le-length : (marks : List Bool) → number marks ≤ length marks
unfolding number
number-le-length [] = omega arith
number-le-length (m ∷ ms) = let few = bit-le-one m in let h = number-le-length ms in omega arith
