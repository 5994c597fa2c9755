-- Floats by their bit patterns: which patterns are a NaN's, and what a test for a NaN says. Assumes nothing.
use mathlib.Core.Path.{◌≡◌, refl, sym, ap, ◌∙◌, subst}
use mathlib.Core.Bool.{Bool, true, false, not, true≢false}
use Prim.Native.Nat.{ℕ, ◌<◌, ◌≤◌, ◌%◌}
use lib.Dec.{T, ltb}
use lib.Ieee.{Float, nan, inf, fin, binary32, is_nan, ne, div, nan_bits, of_bits, to_bits}
use lib.Ieee.Bits.{nan_bits_is, nan_bits_above}
use lib.Ieee.Compare.{differs_from_itself}
use borrow.Author.Tests.{lt-ltb, le-ltb}
use Rattle.float_vectors.specs.Wanted.{bits_of}

pub nan-bits-above : (n : ℕ) → nan_bits binary32 n ≡ ltb 0x7f80_0000 (n % 0x8000_0000)
nan-bits-above n = nan_bits_above binary32 n

is-nan : (x : Float) → is_nan x ≡ true → x ≡ nan
unfolding is_nan
is-nan nan e = refl
is-nan (inf s) e = absurd (true≢false (sym e))
is-nan (fin s m k) e = absurd (true≢false (sym e))

zero-over-zero : div binary32 (of_bits binary32 0) (of_bits binary32 0) ≡ nan
unfolding div of_bits
zero-over-zero = refl

-- 0.0 / 0.0 stands in for every NaN's pattern
pub nan-of-bits : (n : ℕ) → 0x7f80_0000 < n % 0x8000_0000 → div binary32 (of_bits binary32 0) (of_bits binary32 0) ≡ of_bits binary32 n
nan-of-bits n h = zero-over-zero ∙ sym (is-nan (of_bits binary32 n) (sym (nan_bits_is binary32 n) ∙ nan-bits-above n ∙ lt-ltb _ _ h))

pub no-nan-bits : (n : ℕ) → n % 0x8000_0000 ≤ 0x7f80_0000 → T (not (nan_bits binary32 n))
no-nan-bits n h = subst (λ (b : Bool). T (not b)) (sym (nan-bits-above n ∙ le-ltb _ _ h)) tt

nan-of-ne : (x : Float) → ne x x ≡ true → x ≡ nan
nan-of-ne x e = differs_from_itself x (subst T (sym e) tt)

nan-bits : bits_of nan ≡ 0x7fc0_0000
unfolding to_bits
nan-bits = refl

pub bits-of-ne : (x : Float) → ne x x ≡ true → 0x7fc0_0000 ≡ bits_of x
bits-of-ne x p = sym (ap bits_of (nan-of-ne x p) ∙ nan-bits)

pub no-nan-of-ne : (x : Float) → ne x x ≡ false → T (not (is_nan x))
unfolding ne is_nan
no-nan-of-ne nan e = absurd (true≢false e)
no-nan-of-ne (inf s) e = tt
no-nan-of-ne (fin s m k) e = tt
