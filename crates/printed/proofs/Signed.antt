-- A number with its sign, by whether it is below 0. Assumes nothing.
use mathlib.Core.Path.{◌≡◌, refl}
use mathlib.Core.Bool.{true}
use mathlib.Core.List.{◌++◌}
use native.Mathlib.Omega.{arith}
use lib.IntN.{ℤ, pos, negsuc, nat_abs}
use lib.Signed.{lt_z}
use borrow.Author.Tests.{le-ltb}
use Rattle.laws.specs.Tests.{never}
use Rattle.printed.specs.Rule.{word, decimal, signed}

pub signed-of-below : (z : ℤ) → lt_z z (pos 0) ≡ true → word "-" ++ decimal (nat_abs z) ≡ signed z
signed-of-below (pos n) h = never h (le-ltb n 0 (omega arith))
signed-of-below (negsuc n) h = refl
