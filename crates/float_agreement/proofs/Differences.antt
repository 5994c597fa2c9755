-- A finite value less a clear one is no NaN, and what is below the infinity stays below it. Assumes nothing.
use mathlib.Core.Path.{◌≡◌, refl, sym, ap, ◌∙◌, subst}
use mathlib.Core.Bool.{Bool, true, false, cond, false≢true}
use Prim.Native.Nat.{ℕ, ◌+◌, ◌-◌, ◌*◌, ◌≤◌}
use native.Mathlib.Nat.{mul_assoc, mul_comm, mul-pos, mul-le-mul_right, sub-le}
use lib.IntN.{ℤ}
use lib.Dec.{T, ltb}
use lib.Ieee.{Float, nan, inf, fin, binary32, up, down, round, sum, sub, neg, lt, le, fits, is_nan, of_bits}
use lib.Ieee.Bits.{is_true}
use lib.Ieee.Fits.{down_pos}
use lib.Ieee.Order.{round_mono}
use lib.Ieee.Scale.{finite}
use Rattle.float_laws.specs.Numbers.{infinity}
use Rattle.float_laws.specs.Std.{clear}
use Rattle.float_laws.proofs.Clear.{round-clear, round-neg, round-held}
use Rattle.float_laws.proofs.Domain.{finite-of-le}

-- ---- no NaN

clear-not-nan : (x : Float) → clear x ≡ true → is_nan x ≡ false
unfolding is_nan
clear-not-nan nan p = absurd (false≢true p)
clear-not-nan (inf s) p = refl
clear-not-nan (fin s m e) p = refl

neg-nan : (x : Float) → is_nan (neg x) ≡ is_nan x
unfolding is_nan neg
neg-nan nan = refl
neg-nan (inf s) = refl
neg-nan (fin s m e) = refl

-- neither sign of a rounded fraction is a NaN
round-not-nan : (s : Bool) (a c : ℕ) → is_nan (round binary32 s a c) ≡ false
round-not-nan false a c = clear-not-nan (round binary32 false a c) (round-clear binary32 a c)
round-not-nan true a c = ap is_nan (sym (round-neg binary32 false a c)) ∙ neg-nan (round binary32 false a c) ∙ clear-not-nan (round binary32 false a c) (round-clear binary32 a c)

pub sub-not-nan : (x y : Float) → clear x ≡ true → T (finite x) → clear y ≡ true → is_nan (sub binary32 x y) ≡ false
unfolding sub is_nan sum
sub-not-nan nan y p a q = absurd a
sub-not-nan (inf s) y p a q = absurd a
sub-not-nan (fin true m e) y p a q = absurd (false≢true p)
sub-not-nan (fin false m e) nan p a q = absurd (false≢true q)
sub-not-nan (fin false m e) (inf t) p a q = refl
sub-not-nan (fin false m e) (fin true n d) p a q = absurd (false≢true q)
sub-not-nan (fin false m e) (fin false n d) p a q = go (ltb (m * up e * down d) (n * up d * down e))
  where
    go : (t : Bool) → is_nan (cond t (round binary32 true (n * up d * down e - m * up e * down d) (down e * down d)) (round binary32 false (m * up e * down d - n * up d * down e) (down e * down d))) ≡ false
    go true = round-not-nan true (n * up d * down e - m * up e * down d) (down e * down d)
    go false = round-not-nan false (m * up e * down d - n * up d * down e) (down e * down d)

-- ---- below the infinity

pub finite-below-infinity : (x : Float) → T (finite x) → lt x infinity ≡ true
unfolding lt of_bits
finite-below-infinity nan a = absurd a
finite-below-infinity (inf s) a = absurd a
finite-below-infinity (fin s m e) a = refl

neg-below-infinity : (x : Float) → clear x ≡ true → lt (neg x) infinity ≡ true
unfolding lt of_bits neg
neg-below-infinity nan p = absurd (false≢true p)
neg-below-infinity (inf true) p = absurd (false≢true p)
neg-below-infinity (inf false) p = refl
neg-below-infinity (fin s m e) p = refl

negative-below-infinity : (a c : ℕ) → lt (round binary32 true a c) infinity ≡ true
negative-below-infinity a c = ap (λ (x : Float). lt x infinity) (sym (round-neg binary32 false a c)) ∙ neg-below-infinity (round binary32 false a c) (round-clear binary32 a c)

-- a / (e * d) - b / (e * d) is no more than x, which is a / (e * d)
rest_le : (x e d b : ℕ) → (x * d - b) * e ≤ x * (e * d)
rest_le x e d b =
    let same : x * d * e ≡ x * (e * d) = mul_assoc x d e ∙ ap (λ (z : ℕ). x * z) (mul_comm d e) in
    subst (λ (z : ℕ). (x * d - b) * e ≤ z) same (mul-le-mul_right e (sub-le (x * d) b))

rest-below-infinity : (m : ℕ) (e : ℤ) (b : ℕ) (d : ℤ) → T (fits binary32 (fin false m e)) → lt (round binary32 false (m * up e * down d - b) (down e * down d)) infinity ≡ true
rest-below-infinity m e b d p =
    let r = round binary32 false (m * up e * down d - b) (down e * down d) in
    finite-below-infinity r
    (finite-of-le r (fin false m e) (round-clear binary32 (m * up e * down d - b) (down e * down d)) tt
    (subst (λ (z : Float). le r z ≡ true) (round-held binary32 m e p)
    (is_true (le r (round binary32 false (m * up e) (down e))) (round_mono binary32 (m * up e * down d - b) (down e * down d) (m * up e) (down e) (mul-pos (down_pos e) (down_pos d)) (down_pos e) (rest_le (m * up e) (down e) (down d) b)))))

pub sub-below-infinity : (x y : Float) → T (fits binary32 x) → lt x infinity ≡ true → clear y ≡ true → lt (sub binary32 x y) infinity ≡ true
unfolding sub sum lt of_bits
sub-below-infinity nan y p h q = absurd (false≢true h)
sub-below-infinity (inf false) y p h q = absurd (false≢true h)
sub-below-infinity (inf true) nan p h q = absurd (false≢true q)
sub-below-infinity (inf true) (inf true) p h q = absurd (false≢true q)
sub-below-infinity (inf true) (inf false) p h q = refl
sub-below-infinity (inf true) (fin t n d) p h q = refl
sub-below-infinity (fin s m e) nan p h q = absurd (false≢true q)
sub-below-infinity (fin s m e) (inf true) p h q = absurd (false≢true q)
sub-below-infinity (fin s m e) (inf false) p h q = refl
sub-below-infinity (fin s m e) (fin true n d) p h q = absurd (false≢true q)
sub-below-infinity (fin true m e) (fin false n d) p h q = negative-below-infinity (m * up e * down d + n * up d * down e) (down e * down d)
sub-below-infinity (fin false m e) (fin false n d) p h q = go (ltb (m * up e * down d) (n * up d * down e))
  where
    go : (t : Bool) → lt (cond t (round binary32 true (n * up d * down e - m * up e * down d) (down e * down d)) (round binary32 false (m * up e * down d - n * up d * down e) (down e * down d))) infinity ≡ true
    go true = negative-below-infinity (n * up d * down e - m * up e * down d) (down e * down d)
    go false = rest-below-infinity m e (n * up d * down e) d p
