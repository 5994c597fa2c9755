-- `if a < b` agrees with Rust's `f32::min`, `f32::max` and `min_by(total_cmp)` on the values whose sign bit is clear, and `max` with 0.0 on negative ones too. Assumes nothing.
use mathlib.Core.Path.{◌≡◌, refl, sym, ap, ◌∙◌}
use mathlib.Core.Logic.{◌⊎◌, inl, inr}
use mathlib.Core.Bool.{Bool, true, false, cond, ◌&&◌, ◌||◌, true≢false, false≢true}
use mathlib.Core.List.{List, [], ◌∷◌, foldl}
use Prim.Native.Nat.{ℕ, zero, suc, ◌+◌, ◌-◌, ◌*◌, ◌^◌, ◌≤◌, ◌<◌}
use native.Mathlib.Nat.{lt_of_lt_of_le, lt_of_le_of_lt, zero-lt-suc, mul-pos, zero-mul}
use native.Mathlib.Omega.{arith}
use lib.IntN.{ℤ}
use lib.Dec.{T, ltb, eqb, lit<}
use lib.Ieee.{Float, nan, inf, fin, binary32, up, down, lt, le, eq, fits, is_nan, of_bits, to_bits, neg}
use lib.Ieee.Bits.{of_bits-fits}
use lib.Ieee.Fits.{up_pos, neg-fits}
use borrow.Author.Tests.{lt-ltb, le-ltb, lt-leb, eq-eqb}
use Rattle.laws.specs.Lists.{All}
use Rattle.laws.specs.Tests.{lt-or-ge}
use Rattle.float_laws.specs.Std.{clear, IsClear, min_of, max_of, MinAllows, MaxAllows, total_key, earlier_least, min_by_total}
use Rattle.float_laws.proofs.Order.{lt-by-bits, eq-same, le_of_not_lt, not-lt-of-le, clear-bits-le}
use Rattle.float_laws.specs.Numbers.{infinity, minus_zero, zero32}

-- ---- `f32::min` and `f32::max`

or-true : (a b : Bool) → (a || b) ≡ true → (a ≡ true) ⊎ (b ≡ true)
or-true true b h = inl refl
or-true false b h = inr h

-- y is above x, or it is not, and then it is below or compares equal
abbrev Compared : Float → Float → Type 0
Compared x y = (lt x y ≡ true) ⊎ ((lt x y ≡ false) × ((lt y x ≡ true) ⊎ (eq x y ≡ true)))

three_ways : (x y : Float) → IsClear x → IsClear y → Compared x y
unfolding le
three_ways x y p q = go (lt x y) refl
  where
    turn : (lt y x ≡ true) ⊎ (eq y x ≡ true) → (lt y x ≡ true) ⊎ (eq x y ≡ true)
    turn (inl l) = inl l
    turn (inr e) = let same = eq-same binary32 y x q.0 p.0 q.1 p.1 e in inr (ap (eq x) same ∙ sym (ap (λ (z : Float). eq z x) same) ∙ e)

    go : (t : Bool) → lt x y ≡ t → Compared x y
    go true e = inl e
    go false e = inr (e, turn (or-true (lt y x) (eq y x) (le_of_not_lt x y p.1 q.1 e)))

min-when-less : (a b : Float) → lt a b ≡ true → min_of a b ≡ a
min-when-less a b e = ap (λ (t : Bool). cond t a b) e

min-when-not : (a b : Float) → lt a b ≡ false → min_of a b ≡ b
min-when-not a b e = ap (λ (t : Bool). cond t a b) e

max-when-less : (a b : Float) → lt a b ≡ true → max_of a b ≡ b
max-when-less a b e = ap (λ (t : Bool). cond t b a) e

max-when-not : (a b : Float) → lt a b ≡ false → max_of a b ≡ a
max-when-not a b e = ap (λ (t : Bool). cond t b a) e

pub min-agrees : (a b r : Float) → IsClear a → IsClear b → MinAllows a b r → r ≡ min_of a b
min-agrees a b r p q h = go (three_ways a b p q)
  where
    either : eq a b ≡ true → (r ≡ a) ⊎ (r ≡ b) → r ≡ b
    either e (inl k) = k ∙ eq-same binary32 a b p.0 q.0 p.1 q.1 e
    either e (inr k) = k

    go : Compared a b → r ≡ min_of a b
    go (inl l) = h.first-less l ∙ sym (min-when-less a b l)
    go (inr (e, inl l)) = h.second-less l ∙ sym (min-when-not a b e)
    go (inr (e, inr k)) = either k (h.equal k) ∙ sym (min-when-not a b e)

pub max-agrees : (a b r : Float) → IsClear a → IsClear b → MaxAllows a b r → r ≡ max_of a b
max-agrees a b r p q h = go (three_ways a b p q)
  where
    either : eq a b ≡ true → (r ≡ a) ⊎ (r ≡ b) → r ≡ a
    either e (inl k) = k
    either e (inr k) = k ∙ sym (eq-same binary32 a b p.0 q.0 p.1 q.1 e)

    go : Compared a b → r ≡ max_of a b
    go (inl l) = h.first-less l ∙ sym (max-when-less a b l)
    go (inr (e, inl l)) = h.second-less l ∙ sym (max-when-not a b e)
    go (inr (e, inr k)) = either k (h.equal k) ∙ sym (max-when-not a b e)

-- what the routines write is among what Rust allows, so the two laws above speak of something
not-nan : (x : Float) {X : Type 0} → clear x ≡ true → is_nan x ≡ true → X
unfolding is_nan
not-nan nan p h = absurd (false≢true p)
not-nan (inf s) p h = absurd (false≢true h)
not-nan (fin s m e) p h = absurd (false≢true h)

lt_asymm : (a b : Float) → IsClear a → IsClear b → lt b a ≡ true → lt a b ≡ false
unfolding le
lt_asymm a b p q l = not-lt-of-le b a q.1 p.1 (ap (λ (t : Bool). t || eq b a) l)

one_of_two : (t : Bool) (a b : Float) → (cond t a b ≡ a) ⊎ (cond t a b ≡ b)
one_of_two true a b = inl refl
one_of_two false a b = inr refl

other-of-two : (t : Bool) (a b : Float) → (cond t b a ≡ a) ⊎ (cond t b a ≡ b)
other-of-two true a b = inr refl
other-of-two false a b = inl refl

pub min-allowed : (a b : Float) → IsClear a → IsClear b → MinAllows a b (min_of a b)
min-allowed a b p q = record {
  first-nan = λ (h : is_nan a ≡ true). not-nan a p.1 h;
  second-nan = λ (h : is_nan b ≡ true). not-nan b q.1 h;
  first-less = min-when-less a b;
  second-less = λ (l : lt b a ≡ true). min-when-not a b (lt_asymm a b p q l);
  equal = λ (e : eq a b ≡ true). one_of_two (lt a b) a b;
}

pub max-allowed : (a b : Float) → IsClear a → IsClear b → MaxAllows a b (max_of a b)
max-allowed a b p q = record {
  first-nan = λ (h : is_nan a ≡ true). not-nan a p.1 h;
  second-nan = λ (h : is_nan b ≡ true). not-nan b q.1 h;
  first-less = max-when-less a b;
  second-less = λ (l : lt b a ≡ true). max-when-not a b (lt_asymm a b p q l);
  equal = λ (e : eq a b ≡ true). other-of-two (lt a b) a b;
}

-- ---- the larger of 0.0 and a value that may be negative

pub zero_clear : IsClear zero32
unfolding of_bits
zero_clear = (of_bits-fits binary32 0, refl)

-- a value below 0.0
negative-gives-zero : (x r : Float) → lt x zero32 ≡ true → lt zero32 x ≡ false → MaxAllows zero32 x r → r ≡ max_of zero32 x
negative-gives-zero x r l e h = h.second-less l ∙ sym (max-when-not zero32 x e)

finite-negative : (m : ℕ) (e : ℤ) → lt (fin true (suc m) e) zero32 ≡ true
unfolding lt of_bits
finite-negative m e =
    lt-ltb 0 (suc m * up e * 1 + 0 * down e) (lt_of_lt_of_le (mul-pos (zero-lt-suc m) (up_pos e)) (bound (suc m * up e) (0 * down e)))
  where
    bound : (a b : ℕ) → a ≤ a * 1 + b
    bound a b = omega arith

not-above : (m : ℕ) (e : ℤ) → lt zero32 (fin true m e) ≡ false
unfolding lt of_bits
not-above m e = refl

minus-infinity-below : lt (inf true) zero32 ≡ true
unfolding lt of_bits
minus-infinity-below = refl

minus-infinity-not-above : lt zero32 (inf true) ≡ false
unfolding lt of_bits
minus-infinity-not-above = refl

-- -0.0 is written in one way
zero-is-minus-zero : (e : ℤ) → T (fits binary32 (fin true 0 e)) → fin true 0 e ≡ minus_zero
unfolding neg of_bits eq
zero-is-minus-zero e h =
    ap neg (eq-same binary32 (fin false 0 e) zero32 (neg-fits binary32 (fin true 0 e) h) zero_clear.0 refl zero_clear.1 level)
  where
    level : (eqb (0 * up e * 1) (0 * 1 * down e) && true) ≡ true
    level = ap (λ (t : Bool). t && true) (eq-eqb (0 * up e * 1) (0 * 1 * down e) (ap (λ (a : ℕ). a * 1) (zero-mul (up e)) ∙ sym (zero-mul (down e))))

pub max-with-zero-agrees : (x r : Float) → T (fits binary32 x) → is_nan x ≡ false → (x ≡ minus_zero → ⊥) → MaxAllows zero32 x r → r ≡ max_of zero32 x
unfolding is_nan
max-with-zero-agrees nan r p k z h = absurd (true≢false k)
max-with-zero-agrees (inf true) r p k z h = negative-gives-zero (inf true) r minus-infinity-below minus-infinity-not-above h
max-with-zero-agrees (inf false) r p k z h = max-agrees zero32 (inf false) r zero_clear (p, refl) h
max-with-zero-agrees (fin false m e) r p k z h = max-agrees zero32 (fin false m e) r zero_clear (p, refl) h
max-with-zero-agrees (fin true zero e) r p k z h = absurd (z (zero-is-minus-zero e p))
max-with-zero-agrees (fin true (suc m) e) r p k z h = negative-gives-zero (fin true (suc m) e) r (finite-negative m e) (not-above (suc m) e) h

-- ---- `min_by(total_cmp)`

-- the pattern of a clear value is a number of 31 bits
clear-key : (x : Float) → IsClear x → total_key x ≡ 2 ^ 31 + to_bits binary32 x
clear-key x p = ap (λ (t : Bool). cond t (2 ^ 31 - 1 - (to_bits binary32 x - 2 ^ 31)) (2 ^ 31 + to_bits binary32 x)) (lt-leb (2 ^ 31) (to_bits binary32 x) (lt_of_le_of_lt (clear-bits-le binary32 x p.0 p.1) (lit< tt)))

ltb-shift : (k a b : ℕ) → ltb (k + a) (k + b) ≡ ltb a b
ltb-shift k a b = go (lt-or-ge a b)
  where
    go : (a < b) ⊎ (b ≤ a) → ltb (k + a) (k + b) ≡ ltb a b
    go (inl l) = lt-ltb (k + a) (k + b) (omega arith) ∙ sym (lt-ltb a b l)
    go (inr l) = le-ltb (k + a) (k + b) (omega arith) ∙ sym (le-ltb a b l)

total-key-lt : (x y : Float) → IsClear x → IsClear y → ltb (total_key x) (total_key y) ≡ lt x y
total-key-lt x y p q =
    ap (λ (k : ℕ). ltb k (total_key y)) (clear-key x p)
    ∙ ap (λ (k : ℕ). ltb (2 ^ 31 + to_bits binary32 x) k) (clear-key y q)
    ∙ ltb-shift (2 ^ 31) (to_bits binary32 x) (to_bits binary32 y)
    ∙ sym (lt-by-bits binary32 x y p.0 q.0 p.1 q.1)

pub total-min-agrees : (x best : Float) → IsClear x → IsClear best → earlier_least best x ≡ min_of x best
total-min-agrees x best p q = ap (λ (t : Bool). cond t x best) (total-key-lt x best p q)

-- no value is above the infinity, so the first one takes its place
min-with-infinity : (x : Float) → IsClear x → min_of x infinity ≡ x
unfolding lt of_bits
min-with-infinity nan p = absurd (false≢true p.1)
min-with-infinity (inf true) p = absurd (false≢true p.1)
min-with-infinity (inf false) p = refl
min-with-infinity (fin s m e) p = refl

pub min-clear : (a b : Float) → IsClear a → IsClear b → IsClear (min_of a b)
min-clear a b p q = go (lt a b)
  where
    go : (t : Bool) → IsClear (cond t a b)
    go true = p
    go false = q

min-fold-agrees : (best : Float) (xs : List Float) → IsClear best → All IsClear xs → foldl (λ b x. min_of x b) best xs ≡ min_by_total best xs
unfolding All
min-fold-agrees best [] p ps = refl
min-fold-agrees best (x ∷ xs) p ps =
    min-fold-agrees (min_of x best) xs (min-clear x best ps.0 p) ps.1 ∙ ap (λ (b : Float). min_by_total b xs) (sym (total-min-agrees x best ps.0 p))

-- the least of a list that is not empty, taken with `<` from the infinity on
pub total-min-list-agrees : (x : Float) (xs : List Float) → All IsClear (x ∷ xs) → foldl (λ b x. min_of x b) infinity (x ∷ xs) ≡ min_by_total x xs
unfolding All
total-min-list-agrees x xs ps =
    ap (λ (b : Float). foldl (λ b x. min_of x b) b xs) (min-with-infinity x ps.0) ∙ min-fold-agrees x xs ps.0 ps.1
