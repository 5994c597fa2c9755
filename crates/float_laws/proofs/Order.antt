-- The order of the values whose sign bit is clear: it is the one of their bit patterns, it is total, and two that compare equal are the same. Assumes nothing.
use mathlib.Core.Path.{◌≡◌, refl, sym, ap, ◌∙◌}
use mathlib.Core.Logic.{◌⊎◌, inl, inr}
use mathlib.Core.Bool.{Bool, true, false, ◌&&◌, ◌||◌, true≢false, false≢true}
use Prim.Native.Nat.{ℕ, ◌*◌, ◌^◌, ◌≤◌, ◌<◌}
use native.Mathlib.Nat.{le_trans, le_of_eq, le_of_lt, le_refl, le_antisymm, eq-or-lt_of_le, not-le_of_lt, le_of_mul-le-mul_right, mul-le-mul_right, zero-add}
use lib.IntN.{ℤ}
use lib.Dec.{T, ltb, eqb}
use lib.Pow.{pow_pos}
use lib.Ieee.{Float, nan, inf, fin, Format, low, up, down, lt, le, eq, fits, hid, ones, to_bits, of_bits}
use lib.Ieee.Bits.{of_bits-to_bits}
use lib.Ieee.Fits.{down_pos}
use lib.Ieee.Order.{transfer}
use borrow.Author.Tests.{ltb-true, ltb-false, lt-ltb, le-ltb, eqb-true, eq-eqb}
use Rattle.laws.specs.Tests.{lt-or-ge}
use Rattle.float_laws.specs.Std.{clear}
use Rattle.float_laws.proofs.Grains.{grains, grains-exact, grains-lt, pattern, bits-of-grains, pattern-mono, pattern_lt}

-- ---- two finite values: the order of the fractions is the one of the grains

module _ (f : Format) (m : ℕ) (e : ℤ) (n : ℕ) (d : ℤ) (s t : Bool) (p : T (fits f (fin s m e))) (q : T (fits f (fin t n d))) where
  grains-le-of-cross : m * up e * down d ≤ n * up d * down e → grains f m e ≤ grains f n d
  grains-le-of-cross h =
      le_of_mul-le-mul_right
      (transfer (grains f m e) (grains f n d) (2 ^ low f) (2 ^ low f) (m * up e) (n * up d) (down e) (down d) (down_pos e) (down_pos d) (sym (grains-exact f s m e p)) (sym (grains-exact f t n d q)) h)
      (pow_pos (low f))

  cross-of-grains-le : grains f m e ≤ grains f n d → m * up e * down d ≤ n * up d * down e
  cross-of-grains-le h =
      transfer (m * up e) (n * up d) (down e) (down d) (grains f m e) (grains f n d) (2 ^ low f) (2 ^ low f) (pow_pos (low f)) (pow_pos (low f)) (grains-exact f s m e p) (grains-exact f t n d q) (mul-le-mul_right (2 ^ low f) h)

-- two tests of the same answer
ltb-same : (a b c d : ℕ) → (a < b → c < d) → (b ≤ a → d ≤ c) → ltb a b ≡ ltb c d
ltb-same a b c d h k = go (lt-or-ge a b)
  where
    go : (a < b) ⊎ (b ≤ a) → ltb a b ≡ ltb c d
    go (inl l) = lt-ltb a b l ∙ sym (lt-ltb c d (h l))
    go (inr l) = le-ltb a b l ∙ sym (le-ltb c d (k l))

lt-of-le-back : (a b c d : ℕ) → (d ≤ c → b ≤ a) → a < b → c < d
lt-of-le-back a b c d h l = go (lt-or-ge c d)
  where
    go : (c < d) ⊎ (d ≤ c) → c < d
    go (inl k) = k
    go (inr k) = absurd (not-le_of_lt l (h k))

-- the pattern of a value with a clear sign
clear-bits : (f : Format) (m : ℕ) (e : ℤ) → to_bits f (fin false m e) ≡ pattern f (grains f m e)
clear-bits f m e = bits-of-grains f false m e ∙ zero-add (pattern f (grains f m e))

infinity-bits : (f : Format) → to_bits f (inf false) ≡ ones f * hid f
unfolding to_bits
infinity-bits f = zero-add (ones f * hid f)

-- values of the same pattern are the same
same-of-bits : (f : Format) (x y : Float) → T (fits f x) → T (fits f y) → to_bits f x ≡ to_bits f y → x ≡ y
same-of-bits f x y p q h = sym (of_bits-to_bits f x p) ∙ ap (of_bits f) h ∙ of_bits-to_bits f y q

-- the grains of a value, 0 for a NaN and an infinity
abbrev grains_of : Format → Float → ℕ
grains_of f nan = 0
grains_of f (inf s) = 0
grains_of f (fin s m e) = grains f m e

pattern-reflects : (f : Format) (m : ℕ) (e : ℤ) (n : ℕ) (d : ℤ) → T (fits f (fin false m e)) → T (fits f (fin false n d)) → pattern f (grains f m e) ≤ pattern f (grains f n d) → grains f m e ≤ grains f n d
pattern-reflects f m e n d p q h = go (lt-or-ge (grains f n d) (grains f m e))
  where
    go : (grains f n d < grains f m e) ⊎ (grains f m e ≤ grains f n d) → grains f m e ≤ grains f n d
    go (inl l) =
        le_of_eq (ap (grains_of f) (same-of-bits f (fin false m e) (fin false n d) p q
        (clear-bits f m e ∙ le_antisymm h (pattern-mono f (grains f n d) (grains f m e) (le_of_lt l)) ∙ sym (clear-bits f n d))))
    go (inr l) = l

finite-below : (f : Format) (m : ℕ) (e : ℤ) → T (fits f (fin false m e)) → to_bits f (fin false m e) < to_bits f (inf false)
finite-below f m e p = rw (clear-bits f m e, infinity-bits f) (pattern_lt f (grains f m e) (grains-lt f false m e p))

-- no clear value has a pattern above the infinity's
pub clear-bits-le : (f : Format) (x : Float) → T (fits f x) → clear x ≡ true → to_bits f x ≤ ones f * hid f
clear-bits-le f nan p c = absurd (false≢true c)
clear-bits-le f (inf true) p c = absurd (false≢true c)
clear-bits-le f (inf false) p c = le_of_eq (infinity-bits f)
clear-bits-le f (fin true m e) p c = absurd (false≢true c)
clear-bits-le f (fin false m e) p c = le_trans (le_of_lt (finite-below f m e p)) (le_of_eq (infinity-bits f))

-- ---- the laws

pub lt-by-bits : (f : Format) (x y : Float) → T (fits f x) → T (fits f y) → clear x ≡ true → clear y ≡ true → lt x y ≡ ltb (to_bits f x) (to_bits f y)
unfolding lt
lt-by-bits f nan y p q cx cy = absurd (false≢true cx)
lt-by-bits f (inf true) y p q cx cy = absurd (false≢true cx)
lt-by-bits f (fin true m e) y p q cx cy = absurd (false≢true cx)
lt-by-bits f (inf false) nan p q cx cy = absurd (false≢true cy)
lt-by-bits f (inf false) (inf true) p q cx cy = absurd (false≢true cy)
lt-by-bits f (inf false) (inf false) p q cx cy = sym (le-ltb (to_bits f (inf false)) (to_bits f (inf false)) (le_refl (to_bits f (inf false))))
lt-by-bits f (inf false) (fin true n d) p q cx cy = absurd (false≢true cy)
lt-by-bits f (inf false) (fin false n d) p q cx cy = sym (le-ltb (to_bits f (inf false)) (to_bits f (fin false n d)) (le_of_lt (finite-below f n d q)))
lt-by-bits f (fin false m e) nan p q cx cy = absurd (false≢true cy)
lt-by-bits f (fin false m e) (inf true) p q cx cy = absurd (false≢true cy)
lt-by-bits f (fin false m e) (inf false) p q cx cy = sym (lt-ltb (to_bits f (fin false m e)) (to_bits f (inf false)) (finite-below f m e p))
lt-by-bits f (fin false m e) (fin true n d) p q cx cy = absurd (false≢true cy)
lt-by-bits f (fin false m e) (fin false n d) p q cx cy =
    rw (clear-bits f m e, clear-bits f n d)
    (ltb-same (m * up e * down d) (n * up d * down e) (pattern f (grains f m e)) (pattern f (grains f n d))
    (lt-of-le-back (m * up e * down d) (n * up d * down e) (pattern f (grains f m e)) (pattern f (grains f n d)) (λ (h : pattern f (grains f n d) ≤ pattern f (grains f m e)). cross-of-grains-le f n d m e false false q p (pattern-reflects f n d m e q p h)))
    (λ (h : n * up d * down e ≤ m * up e * down d). pattern-mono f (grains f n d) (grains f m e) (grains-le-of-cross f n d m e false false q p h)))

level-eq : (a b : ℕ) → (eqb a b && true) ≡ true → a ≡ b
level-eq a b h = go (eqb a b) refl h
  where
    go : (t : Bool) → eqb a b ≡ t → (t && true) ≡ true → a ≡ b
    go true e h = eqb-true a b e
    go false e h = absurd (false≢true h)

-- two that compare equal are the same data
pub eq-same : (f : Format) (x y : Float) → T (fits f x) → T (fits f y) → clear x ≡ true → clear y ≡ true → eq x y ≡ true → x ≡ y
unfolding eq
eq-same f nan y p q cx cy h = absurd (false≢true cx)
eq-same f (inf true) y p q cx cy h = absurd (false≢true cx)
eq-same f (fin true m e) y p q cx cy h = absurd (false≢true cx)
eq-same f (inf false) nan p q cx cy h = absurd (false≢true cy)
eq-same f (inf false) (inf true) p q cx cy h = absurd (false≢true cy)
eq-same f (inf false) (inf false) p q cx cy h = refl
eq-same f (inf false) (fin t n d) p q cx cy h = absurd (false≢true h)
eq-same f (fin false m e) nan p q cx cy h = absurd (false≢true cy)
eq-same f (fin false m e) (inf t) p q cx cy h = absurd (false≢true h)
eq-same f (fin false m e) (fin true n d) p q cx cy h = absurd (false≢true cy)
eq-same f (fin false m e) (fin false n d) p q cx cy h =
    let k = level-eq (m * up e * down d) (n * up d * down e) h in
    same-of-bits f (fin false m e) (fin false n d) p q
    (clear-bits f m e
    ∙ ap (pattern f) (le_antisymm (grains-le-of-cross f m e n d false false p q (le_of_eq k)) (grains-le-of-cross f n d m e false false q p (le_of_eq (sym k))))
    ∙ sym (clear-bits f n d))

-- a ≤ b as `le` tests it
le-tested : (a b : ℕ) → a ≤ b → (ltb a b || (eqb a b && true)) ≡ true
le-tested a b h = go (eq-or-lt_of_le h)
  where
    or-true : (t : Bool) → (t || true) ≡ true
    or-true true = refl
    or-true false = refl

    go : (a ≡ b) ⊎ (a < b) → (ltb a b || (eqb a b && true)) ≡ true
    go (inl e) = ap (λ (t : Bool). ltb a b || (t && true)) (eq-eqb a b e) ∙ or-true (ltb a b)
    go (inr l) = ap (λ (t : Bool). t || (eqb a b && true)) (lt-ltb a b l)

tested_le : (a b : ℕ) → (ltb a b || (eqb a b && true)) ≡ true → a ≤ b
tested_le a b h = go (ltb a b) refl h
  where
    go : (t : Bool) → ltb a b ≡ t → (t || (eqb a b && true)) ≡ true → a ≤ b
    go true e h = le_of_lt (ltb-true a b e)
    go false e h = le_of_eq (level-eq a b h)

-- the order is total
pub le_of_not_lt : (x y : Float) → clear x ≡ true → clear y ≡ true → lt x y ≡ false → le y x ≡ true
unfolding le
le_of_not_lt nan y cx cy h = absurd (false≢true cx)
le_of_not_lt (inf true) y cx cy h = absurd (false≢true cx)
le_of_not_lt (fin true m e) y cx cy h = absurd (false≢true cx)
le_of_not_lt (inf false) nan cx cy h = absurd (false≢true cy)
le_of_not_lt (inf false) (inf true) cx cy h = absurd (false≢true cy)
le_of_not_lt (inf false) (inf false) cx cy h = refl
le_of_not_lt (inf false) (fin t n d) cx cy h = refl
le_of_not_lt (fin false m e) nan cx cy h = absurd (false≢true cy)
le_of_not_lt (fin false m e) (inf true) cx cy h = absurd (false≢true cy)
le_of_not_lt (fin false m e) (inf false) cx cy h = absurd (true≢false h)
le_of_not_lt (fin false m e) (fin true n d) cx cy h = absurd (false≢true cy)
le_of_not_lt (fin false m e) (fin false n d) cx cy h = le-tested (n * up d * down e) (m * up e * down d) (ltb-false (m * up e * down d) (n * up d * down e) h)

-- le and lt the other way exclude each other
pub not-lt-of-le : (x y : Float) → clear x ≡ true → clear y ≡ true → le x y ≡ true → lt y x ≡ false
unfolding le
not-lt-of-le nan y cx cy h = absurd (false≢true cx)
not-lt-of-le (inf true) y cx cy h = absurd (false≢true cx)
not-lt-of-le (fin true m e) y cx cy h = absurd (false≢true cx)
not-lt-of-le (inf false) nan cx cy h = absurd (false≢true cy)
not-lt-of-le (inf false) (inf true) cx cy h = absurd (false≢true cy)
not-lt-of-le (inf false) (inf false) cx cy h = refl
not-lt-of-le (inf false) (fin t n d) cx cy h = absurd (false≢true h)
not-lt-of-le (fin false m e) nan cx cy h = absurd (false≢true cy)
not-lt-of-le (fin false m e) (inf true) cx cy h = absurd (false≢true cy)
not-lt-of-le (fin false m e) (inf false) cx cy h = refl
not-lt-of-le (fin false m e) (fin true n d) cx cy h = absurd (false≢true cy)
not-lt-of-le (fin false m e) (fin false n d) cx cy h = le-ltb (n * up d * down e) (m * up e * down d) (tested_le (m * up e * down d) (n * up d * down e) h)

-- the fractions of two finite values that are in order
pub le-cross : (m : ℕ) (e : ℤ) (n : ℕ) (d : ℤ) → le (fin false m e) (fin false n d) ≡ true → m * up e * down d ≤ n * up d * down e
unfolding le
le-cross m e n d h = tested_le (m * up e * down d) (n * up d * down e) h
