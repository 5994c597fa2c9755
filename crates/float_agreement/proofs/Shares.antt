-- The space above the threshold is clear, and so is its quotient by a clear sum that is not 0. Assumes nothing.
use mathlib.Core.Path.{◌≡◌, refl, sym, ap, ◌∙◌}
use mathlib.Core.Bool.{Bool, true, false, cond, ◌&&◌, ◌||◌, false≢true}
use Prim.Native.Nat.{ℕ, zero, suc, ◌+◌, ◌*◌, ◌<◌}
use native.Mathlib.Nat.{mul-pos, zero-mul}
use native.Mathlib.Omega.{arith}
use lib.IntN.{ℤ}
use lib.Dec.{T, eqb, ltb→lt, eqb-suc-zero}
use lib.Ieee.{Float, nan, inf, fin, binary32, up, down, round, div, lt, le, eq, neg, of_bits}
use lib.Ieee.Fits.{up_pos, down_pos}
use lib.Ieee.Positive.{positive}
use borrow.Author.Tests.{lt-ltb, eq-eqb}
use Rattle.laws.specs.Tests.{never}
use Rattle.float_laws.specs.Numbers.{zero32, minus_zero, hundredth, infinity}
use Rattle.float_laws.specs.Std.{clear}
use Rattle.float_laws.proofs.Clear.{round-clear}

-- ---- the space

positive-sum : (a b c : ℕ) → 0 < b → 0 < c → 0 < a + b * c
positive-sum a b c B C = let k = mul-pos B C in omega (arith, k)

-- a value with its sign bit set is below one above 0
negative-le : (m : ℕ) (e : ℤ) (y : Float) → T (positive y) → le (fin true m e) y ≡ true
unfolding le positive
negative-le m e nan h = absurd h
negative-le m e (inf t) h = absurd h
negative-le m e (fin true n d) h = absurd h
negative-le m e (fin false n d) h =
    ap (λ (t : Bool). t || (eqb (m * up e * down d) (n * up d * down e) && (false || eqb (m * up e * down d) 0)))
    (lt-ltb 0 (m * up e * down d + n * up d * down e) (positive-sum (m * up e * down d) (n * up d) (down e) (mul-pos (ltb→lt 0 n h) (up_pos d)) (down_pos e)))

hundredth-positive : T (positive hundredth)
unfolding of_bits positive
hundredth-positive = tt

minus-infinity-le : le (inf true) hundredth ≡ true
unfolding le of_bits
minus-infinity-le = refl

pub clear-above-hundredth : (x : Float) → lt x infinity ≡ true → le x hundredth ≡ false → clear x ≡ true
unfolding lt of_bits
clear-above-hundredth nan p h = absurd (false≢true p)
clear-above-hundredth (inf false) p h = absurd (false≢true p)
clear-above-hundredth (inf true) p h = never minus-infinity-le h
clear-above-hundredth (fin true m e) p h = never (negative-le m e hundredth hundredth-positive) h
clear-above-hundredth (fin false m e) p h = refl

-- ---- its quotient

pub minus-zero-is-zero : eq minus_zero zero32 ≡ true
unfolding eq neg of_bits
minus-zero-is-zero = refl

zero-digits-zero : (d : ℤ) → eq (fin false 0 d) zero32 ≡ true
unfolding eq of_bits
zero-digits-zero d = ap (λ (t : Bool). t && true) (eq-eqb (0 * up d * 1) (0 * 1 * down d) (ap (λ (a : ℕ). a * 1) (zero-mul (up d)) ∙ sym (zero-mul (down d))))

not-zero-digits : (n : ℕ) (d : ℤ) → eq (fin false n d) zero32 ≡ false → eqb n 0 ≡ false
not-zero-digits zero d h = never (zero-digits-zero d) h
not-zero-digits (suc n) d h = eqb-suc-zero n

pub div-clear-of-not-zero : (x y : Float) → clear x ≡ true → lt x infinity ≡ true → clear y ≡ true → eq y zero32 ≡ false → clear (div binary32 x y) ≡ true
unfolding div lt of_bits
div-clear-of-not-zero nan y p b q h = absurd (false≢true p)
div-clear-of-not-zero (inf true) y p b q h = absurd (false≢true p)
div-clear-of-not-zero (inf false) y p b q h = absurd (false≢true b)
div-clear-of-not-zero (fin true m e) y p b q h = absurd (false≢true p)
div-clear-of-not-zero (fin false m e) nan p b q h = absurd (false≢true q)
div-clear-of-not-zero (fin false m e) (inf true) p b q h = absurd (false≢true q)
div-clear-of-not-zero (fin false m e) (inf false) p b q h = refl
div-clear-of-not-zero (fin false m e) (fin true n d) p b q h = absurd (false≢true q)
div-clear-of-not-zero (fin false m e) (fin false n d) p b q h =
    ap (λ (t : Bool). clear (cond t (cond (eqb m 0) nan (inf false)) (round binary32 false (m * up e * down d) (n * up d * down e)))) (not-zero-digits n d h)
    ∙ round-clear binary32 (m * up e * down d) (n * up d * down e)
