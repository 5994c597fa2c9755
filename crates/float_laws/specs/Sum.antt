-- The sum of floats in order, as Rust's `iter().sum::<f32>()` has it: it starts at -0.0. Assumes nothing.
use Rattle.std.specs.Prelude.{List, [], ◌∷◌, Float}
use Rattle.std.specs.Float.Ieee as Ieee
use Rattle.std.specs.Float.{binary32}
use Rattle.float_laws.specs.Numbers.{minus_zero}

abbrev pub sum_from : Float → List Float → Float
sum_from s [] = s
sum_from s (x ∷ xs) = sum_from (Ieee.add binary32 s x) xs

abbrev pub sum_of : List Float → Float
sum_of xs = sum_from minus_zero xs
