-- A comparison that holds has no NaN on its left. Assumes nothing.
use mathlib.Core.Path.{◌≡◌, sym}
use mathlib.Core.Bool.{true, not, true≢false}
use lib.Dec.{T}
use lib.Ieee.{Float, nan, inf, fin, le, is_nan}

pub le-no-nan : (x y : Float) → le x y ≡ true → T (not (is_nan x))
unfolding le is_nan
le-no-nan nan y h = absurd (true≢false (sym h))
le-no-nan (inf s) y h = tt
le-no-nan (fin s m e) y h = tt
