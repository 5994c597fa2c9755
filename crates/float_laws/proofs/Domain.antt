-- What the tests of a domain say: a pattern below 2 ^ 31 is a clear sign, what is not above a finite value is finite, and what is not below a value above 0.0 is above 0.0. Assumes nothing.
use mathlib.Core.Path.{◌≡◌, refl, sym, subst}
use mathlib.Core.Bool.{true, false, true≢false, false≢true}
use Prim.Native.Nat.{◌*◌, ◌≤◌}
use native.Mathlib.Nat.{lt_of_le_of_lt, lt_of_lt_of_le, le_of_eq, le-add_right, le_trans, mul-pos, mul-one, zero-mul}
use lib.Dec.{T, ltb, lit<, lit≤, ltb→lt}
use lib.Ieee.{Float, nan, inf, fin, binary32, up, down, lt, le, fits, is_nan, to_bits, of_bits}
use lib.Ieee.Fits.{up_pos}
use lib.Ieee.Positive.{positive, above, above_of_le}
use lib.Ieee.Scale.{finite}
use borrow.Author.Tests.{lt-ltb, le-ltb}
use Rattle.float_laws.specs.Std.{clear}
use Rattle.float_laws.proofs.Grains.{grains, pattern, bits-of-grains}
use Rattle.float_laws.proofs.Order.{clear-bits-le}
use Rattle.float_laws.specs.Numbers.{sign_bit, zero32}

clear-below : (x : Float) → T (fits binary32 x) → clear x ≡ true → true ≡ ltb (to_bits binary32 x) sign_bit
clear-below x p c = sym (lt-ltb (to_bits binary32 x) sign_bit (lt_of_le_of_lt (clear-bits-le binary32 x p c) (lit< tt)))

infinity-not-below : sign_bit ≤ to_bits binary32 (inf true)
unfolding to_bits
infinity-not-below = lit≤ tt

pub clear-by-bits : (x : Float) → T (fits binary32 x) → is_nan x ≡ false → clear x ≡ ltb (to_bits binary32 x) sign_bit
unfolding is_nan
clear-by-bits nan p k = absurd (true≢false k)
clear-by-bits (inf true) p k = sym (le-ltb (to_bits binary32 (inf true)) sign_bit infinity-not-below)
clear-by-bits (inf false) p k = clear-below (inf false) p refl
clear-by-bits (fin true m e) p k =
    sym (le-ltb (to_bits binary32 (fin true m e)) sign_bit (le_trans (le-add_right sign_bit (pattern binary32 (grains binary32 m e))) (le_of_eq (sym (bits-of-grains binary32 true m e)))))
clear-by-bits (fin false m e) p k = clear-below (fin false m e) p refl

pub finite-of-le : (x y : Float) → clear x ≡ true → T (finite y) → le x y ≡ true → T (finite x)
unfolding le
finite-of-le nan y c b h = absurd (false≢true c)
finite-of-le (inf true) y c b h = absurd (false≢true c)
finite-of-le (inf false) nan c b h = absurd b
finite-of-le (inf false) (inf t) c b h = absurd b
finite-of-le (inf false) (fin t n d) c b h = absurd (false≢true h)
finite-of-le (fin s m e) y c b h = tt

above_zero : (x : Float) → T (above x) → lt zero32 x ≡ true
unfolding lt of_bits
above_zero nan h = absurd h
above_zero (inf true) h = absurd h
above_zero (inf false) h = refl
above_zero (fin true m e) h = absurd h
above_zero (fin false m e) h =
    lt-ltb (0 * 1 * down e) (m * up e * 1)
    (lt_of_le_of_lt (le_of_eq (zero-mul (down e))) (lt_of_lt_of_le (mul-pos (ltb→lt 0 m h) (up_pos e)) (le_of_eq (sym (mul-one (m * up e))))))

pub above-zero-of-le : (lo x : Float) → T (positive lo) → le lo x ≡ true → lt zero32 x ≡ true
above-zero-of-le lo x p h = above_zero x (above_of_le lo x p (subst T (sym h) tt))
