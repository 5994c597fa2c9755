-- Whole sizes: the f32 values that are a whole number of at most 65,535, and the whole-number sum of a list of them. That a whole size has exactly its
-- number as value is proved (`size_exact` in proofs/Whole.antt). Assumes nothing.
use Rattle.std.specs.Prelude.{List, map, ℕ, pos, T, Float}
use Rattle.std.specs.Float.Ieee as Ieee
use Rattle.std.specs.Float.Ieee.{of_int, of_bits, to_unsigned}
use Rattle.std.specs.Float.{binary32}
use Rattle.laws.specs.Sums.{sum}
use Rattle.float_laws.specs.Numbers.{IsF32}

-- the f32 of a whole number
abbrev pub whole : ℕ → Float
whole n = of_int binary32 (pos n)

-- x is an f32, it is a whole number (which -0.0 is not), and it is from 0 to 65,535
abbrev pub WholeSize : Float → Type 0
WholeSize x = IsF32 x × T (Ieee.whole binary32 x) × T (Ieee.le (of_bits binary32 0) x) × T (Ieee.le x (whole 65535))

-- the whole number that x is, as Rust's `x as u32` has it
abbrev pub number : Float → ℕ
number x = to_unsigned 32 x

-- the sum of the whole numbers that the sizes are
abbrev pub whole_sum : List Float → ℕ
whole_sum xs = sum (map number xs)
