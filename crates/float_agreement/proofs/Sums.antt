-- Sums from -0.0 on: the first clear value makes the sum clear, and the next ones leave it so. Assumes nothing.
use mathlib.Core.Path.{◌≡◌, ap, ◌∙◌}
use mathlib.Core.Bool.{Bool, true, false, cond, false≢true}
use mathlib.Core.List.{List, [], ◌∷◌}
use Prim.Native.Nat.{ℕ, ◌-◌, ◌*◌}
use native.Mathlib.Nat.{zero-mul}
use native.Mathlib.Omega.{arith}
use lib.Dec.{ltb}
use lib.Ieee.{Float, nan, inf, fin, binary32, up, down, round, sum, add, neg, of_bits}
use lib.Ieee.Fits.{add-fits}
use borrow.Author.Tests.{le-ltb}
use Rattle.laws.specs.Lists.{All}
use Rattle.float_laws.specs.Numbers.{minus_zero}
use Rattle.float_laws.specs.Std.{clear, IsClear}
use Rattle.float_laws.specs.Sum.{sum_from, sum_of}
use Rattle.float_laws.proofs.Clear.{round-clear, add-clear}

-- -0 / c and b / c
sum-minus-zero-clear : (a b c : ℕ) → a ≡ 0 → clear (sum binary32 true a false b c) ≡ true
unfolding sum
sum-minus-zero-clear a b c e = ap (λ (z : ℕ). clear (cond (ltb z b) (round binary32 false (b - z) c) (round binary32 (ltb b z) (z - b) c))) e ∙ go (ltb 0 b)
  where
    at_zero : clear (round binary32 (ltb b 0) (0 - b) c) ≡ true
    at_zero = ap (λ (t : Bool). clear (round binary32 t (0 - b) c)) (le-ltb b 0 (omega arith)) ∙ round-clear binary32 (0 - b) c

    go : (t : Bool) → clear (cond t (round binary32 false (b - 0) c) (round binary32 (ltb b 0) (0 - b) c)) ≡ true
    go true = round-clear binary32 (b - 0) c
    go false = at_zero

pub add-minus-zero-clear : (x : Float) → clear x ≡ true → clear (add binary32 minus_zero x) ≡ true
unfolding add neg of_bits
add-minus-zero-clear nan p = absurd (false≢true p)
add-minus-zero-clear (inf s) p = p
add-minus-zero-clear (fin true n d) p = absurd (false≢true p)
add-minus-zero-clear (fin false n d) p = sum-minus-zero-clear (0 * 1 * down d) (n * up d * 1) (1 * down d) (zero-mul (down d))

sum-from-clear : (s : Float) (xs : List Float) → IsClear s → All IsClear xs → IsClear (sum_from s xs)
unfolding All
sum-from-clear s [] p ps = p
sum-from-clear s (x ∷ xs) p ps = sum-from-clear (add binary32 s x) xs (add-fits binary32 s x, add-clear binary32 s x p.1 ps.0.1) ps.1

pub sum-of-clear : (x : Float) (xs : List Float) → All IsClear (x ∷ xs) → IsClear (sum_of (x ∷ xs))
unfolding All
sum-of-clear x xs ps = sum-from-clear (add binary32 minus_zero x) xs (add-fits binary32 minus_zero x, add-minus-zero-clear x ps.0.1) ps.1
