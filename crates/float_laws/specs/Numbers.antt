-- Which floats are f32, the most tracks of a call, and the numbers that the routines name, each by its bit pattern, and beside it the number it
-- stands for: a decimal is the nearest f32. Assumes nothing.
use Rattle.std.specs.Prelude.{◌≡◌, refl, true, false, ℕ, pos, T, Float}
use Rattle.std.specs.Float.{fin, inf, binary32}
use Rattle.std.specs.Float.Ieee.{neg, of_bits, of_int, round, fits}

-- x is an f32, as every float that a program holds as one is
abbrev pub IsF32 : Float → Type 0
IsF32 x = T (fits binary32 x)

abbrev pub most_tracks : ℕ
most_tracks = 256

-- what the pattern of an f32 with a set sign bit is not below
abbrev pub sign_bit : ℕ
sign_bit = 0x8000_0000

abbrev pub zero32 : Float
zero32 = of_bits binary32 0

abbrev pub minus_zero : Float
minus_zero = neg zero32

abbrev pub one32 : Float
one32 = of_bits binary32 0x3f80_0000

abbrev pub hundredth : Float
hundredth = of_bits binary32 0x3c23_d70a

abbrev pub thousandth : Float
thousandth = of_bits binary32 0x3a83_126f

abbrev pub thousand : Float
thousand = of_bits binary32 0x447a_0000

abbrev pub million : Float
million = of_bits binary32 0x4974_2400

abbrev pub infinity : Float
infinity = of_bits binary32 0x7f80_0000

zero_is : zero32 ≡ fin false 0 (pos 0)
unfolding of_bits
zero_is = refl

minus-zero-is : minus_zero ≡ fin true 0 (pos 0)
unfolding of_bits neg
minus-zero-is = refl

one-is : one32 ≡ of_int binary32 (pos 1)
unfolding of_bits of_int
one-is = refl

hundredth-is : hundredth ≡ round binary32 false 1 100
unfolding of_bits round
hundredth-is = refl

thousandth-is : thousandth ≡ round binary32 false 1 1000
unfolding of_bits round
thousandth-is = refl

thousand-is : thousand ≡ of_int binary32 (pos 1000)
unfolding of_bits of_int
thousand-is = refl

million-is : million ≡ of_int binary32 (pos 1000000)
unfolding of_bits of_int
million-is = refl

infinity-is : infinity ≡ inf false
unfolding of_bits
infinity-is = refl
