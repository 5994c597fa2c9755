-- Up to 256 whole f32 sizes of at most 65,535 add, in order, to exactly the whole-number sum (`sum-of-sizes-exact`): every partial sum stays below 2 ^ 24.
-- The numbers summed are the sizes' own values (`size_exact`). Assumes nothing.
use mathlib.Core.Path.{◌≡◌, refl, sym, ap, ◌∙◌, subst}
use mathlib.Core.List.{List, [], ◌∷◌, map}
use mathlib.Core.Bool.{true, false, not, ◌&&◌, ◌||◌, cond, true≢false}
use Prim.Native.Nat.{ℕ, zero, suc, ◌+◌, ◌-◌, ◌*◌, ◌/◌, ◌%◌, ◌^◌, ◌≤◌, ◌<◌}
use native.Mathlib.Nat.{mul-one, mul_comm, mul_assoc, mul-pos, add-mul, zero-mul, one-mul, mul-suc, add-zero, le_trans, le_of_eq, le_of_suc-le-suc, div-lt_iff_lt-mul, lt_of_le_of_lt, mul-lt-mul_of_pos_right, lt-suc_self, lt_irrefl, lt_of_lt_of_le, zero-lt-suc}
use native.Mathlib.Omega.{arith}
use lib.ListN.{length, length-map}
use lib.IntN.{ℤ, pos}
use lib.Dec.{T, ltb, leb, eqb, eqb→eq, lt→ltb, lit<, lit≤}
use lib.Ieee as Ieee
use lib.Ieee.{Float, Format, nan, inf, fin, up, down, round, sum, add, neg, of_int, of_bits, binary32, in_unsigned, fits, le}
use borrow.Author.Tests.{lt-ltb, le-ltb}
use lib.Ieee.Fits.{down_pos, up_pos, and_i, and_l, and_r}
use lib.Ieee.Exact.{HasValue}
use lib.Ieee.Casts.{to_unsigned_cut}
use lib.Ieee.Back.{round_whole, Float-back_unsigned}
use lib.Ieee.Scale.{round_same}
use Rattle.float_laws.specs.Sum.{sum_from, sum_of}
use lib.Ieee.Bits.{is_true}
use Rattle.laws.specs.Lists.{All}
use Rattle.laws.specs.Sums.{sum as total}
use Rattle.float_laws.specs.Whole.{whole, WholeSize, number, whole_sum}
use Rattle.float_laws.proofs.Order.{le-cross}
use Rattle.float_laws.specs.Numbers.{most_tracks, minus_zero}

-- ---- two whole numbers

-- x is a and y is b, so x + y is a + b, rounded
add-values : (f : Format) (x y : Float) (a b : ℕ) → HasValue x false a 1 → HasValue y false b 1 → add f x y ≡ round f false (a + b) 1
unfolding add sum
add-values f nan y a b p q = absurd p
add-values f (inf s) y a b p q = absurd p
add-values f (fin s m e) nan a b p q = absurd q
add-values f (fin s m e) (inf t) a b p q = absurd q
add-values f (fin true m e) (fin t n d) a b p q = absurd (true≢false p.0)
add-values f (fin false m e) (fin true n d) a b p q = absurd (true≢false q.0)
add-values f (fin false m e) (fin false n d) a b p q =
    let x : m * up e ≡ a * down e = sym (mul-one (m * up e)) ∙ p.1 in
    let y : n * up d ≡ b * down d = sym (mul-one (n * up d)) ∙ q.1 in
    round_same f false (m * up e * down d + n * up d * down e) (down e * down d) (a + b) 1 (mul-pos (down_pos e) (down_pos d)) (lit< tt)
    (rw (x, y) (simp (mul-one, add-mul, mul_assoc, mul_comm)))

-- whole numbers up to 2 ^ 24 add to the whole sum, rounded once
add-whole : (a b : ℕ) → a ≤ 2 ^ 24 → b ≤ 2 ^ 24 → add binary32 (whole a) (whole b) ≡ whole (a + b)
unfolding of_int
add-whole a b p q = add-values binary32 (whole a) (whole b) a b (round_whole binary32 false a p) (round_whole binary32 false b q)

-- -0.0 + n is n, also where n is 0
add-minus-zero-whole : (n : ℕ) → n ≤ 2 ^ 24 → add binary32 minus_zero (whole n) ≡ whole n
unfolding of_int add sum neg of_bits
add-minus-zero-whole n h = first (whole n) (round_whole binary32 false n h)
  where
    at : (A B C : ℕ) → 0 < C → A ≡ 0 → B ≡ n * C → cond (ltb A B) (round binary32 false (B - A) C) (round binary32 (ltb B A) (A - B) C) ≡ round binary32 false n 1
    at A zero C c p q = rw p (rw (le-ltb 0 0 (lit≤ tt)) (round_same binary32 false (0 - 0) C n 1 c (lit< tt) q))
    at A (suc B) C c p q = rw p (rw (lt-ltb 0 (suc B) (omega arith)) (round_same binary32 false (suc B - 0) C n 1 c (lit< tt) (rw (← q) (omega arith))))

    first : (y : Float) → HasValue y false n 1 → add binary32 minus_zero y ≡ round binary32 false n 1
    first nan q = absurd q
    first (inf t) q = absurd q
    first (fin true k d) q = absurd (true≢false q.0)
    first (fin false k d) q = at (0 * down d) (k * up d * 1) (1 * down d) (rw one-mul (down_pos d)) (zero-mul (down d)) (rw one-mul q.1)

-- ---- lists of whole numbers

-- each number is at most m
abbrev UpTo : ℕ → ℕ → Type 0
UpTo m n = n ≤ m

total-le : (m : ℕ) (ns : List ℕ) → All (UpTo m) ns → total ns ≤ m * length ns
unfolding All total
total-le m [] h = omega arith
total-le m (n ∷ ns) h = let r = total-le m ns h.1 in let s : m * suc (length ns) ≡ m * length ns + m = mul-suc m (length ns) in omega (arith, h.0)

sum-from-whole : (s : ℕ) (ns : List ℕ) → s + total ns ≤ 2 ^ 24 → sum_from (whole s) (map whole ns) ≡ whole (s + total ns)
unfolding total
sum-from-whole s [] h = rw add-zero
sum-from-whole s (n ∷ ns) h =
    ap (λ (z : Float). sum_from z (map whole ns)) (add-whole s n (omega arith) (omega arith)) ∙ (sum-from-whole (s + n) ns (omega arith) ∙ ap whole (omega arith))

sum-of-whole : (n : ℕ) (ns : List ℕ) → total (n ∷ ns) ≤ 2 ^ 24 → sum_of (map whole (n ∷ ns)) ≡ whole (total (n ∷ ns))
unfolding total
sum-of-whole n ns h = ap (λ (z : Float). sum_from z (map whole ns)) (add-minus-zero-whole n (omega arith)) ∙ sum-from-whole n ns h

-- ---- a whole size is the f32 of its number, which is at most 65,535

zero_is : of_bits binary32 0 ≡ fin false 0 (pos 0)
unfolding of_bits
zero_is = refl

limit_is : whole 65535 ≡ fin false 65535 (pos 0)
unfolding of_int
limit_is = refl

cut-le : (a c n : ℕ) → 0 < c → a ≤ n * c → a / c ≤ n
cut-le a c n C h = le_of_suc-le-suc ((div-lt_iff_lt-mul C).1 (lt_of_le_of_lt h (mul-lt-mul_of_pos_right (lt-suc_self n) C)))

at_most : (m : ℕ) (e : ℤ) → le (fin false m e) (fin false 65535 (pos 0)) ≡ true → m * up e / down e ≤ 65535
at_most m e h = cut-le (m * up e) (down e) 65535 (down_pos e) (rw (mul-one (m * up e)) at (le-cross m e 65535 (pos 0) h))

number-of-finite : (m : ℕ) (e : ℤ) → T (fits binary32 (fin false m e)) → T (Ieee.whole binary32 (fin false m e)) → m * up e / down e ≤ 65535
    → (whole (number (fin false m e)) ≡ fin false m e) × (number (fin false m e) ≤ 65535)
unfolding in_unsigned
number-of-finite m e p w l =
    let cut = m * up e / down e in
    let below : cut < 2 ^ 32 = lt_of_le_of_lt l (lit< tt) in
    let t : T (in_unsigned binary32 32 (fin false m e)) = and_i (Ieee.whole binary32 (fin false m e)) (ltb cut (2 ^ 32)) w (lt→ltb cut (2 ^ 32) below) in
    ((Float-back_unsigned binary32 32 (fin false m e) p t).1, rw (to_unsigned_cut binary32 32 false m e t) l)

-- a whole number with its sign bit set is below 0
not_negative : (m : ℕ) (e : ℤ) → T (Ieee.whole binary32 (fin true m e)) → T (le (fin false 0 (pos 0)) (fin true m e)) → ⊥
unfolding Ieee.whole le
not_negative zero e w h = and_r (eqb (0 * up e % down e) 0 && leb (0 * up e / down e) (2 ^ 24)) (not (true && eqb 0 0)) w
not_negative (suc m) e w h =
    let same : 0 * 1 * down e ≡ suc m * up e * 1 = eqb→eq (0 * 1 * down e) (suc m * up e * 1) (and_l (eqb (0 * 1 * down e) (suc m * up e * 1)) (false || eqb (0 * 1 * down e) 0) h) in
    lt_irrefl 0 (lt_of_lt_of_le (mul-pos (zero-lt-suc m) (up_pos e)) (le_of_eq (sym (mul-one (suc m * up e)) ∙ sym same ∙ zero-mul (down e))))

number-of-size : (x : Float) → WholeSize x → (whole (number x) ≡ x) × (number x ≤ 65535)
unfolding Ieee.whole le
number-of-size nan h = absurd h.1
number-of-size (inf s) h = absurd h.1
number-of-size (fin true m e) h = absurd (not_negative m e h.1 (subst (λ (z : Float). T (le z (fin true m e))) zero_is h.2))
number-of-size (fin false m e) h = number-of-finite m e h.0 h.1 (at_most m e (is_true (le (fin false m e) (fin false 65535 (pos 0))) (subst (λ (z : Float). T (le (fin false m e) z)) limit_is h.3)))

numbers-of-sizes : (xs : List Float) → All WholeSize xs → (map whole (map number xs) ≡ xs) × All (UpTo 65535) (map number xs)
unfolding All
numbers-of-sizes [] h = (refl, tt)
numbers-of-sizes (x ∷ xs) h =
    let a = number-of-size x h.0 in
    let r = numbers-of-sizes xs h.1 in
    (λ i. a.0 i ∷ r.0 i, (a.1, r.1))

-- 256 * 65,535 is below 2 ^ 24
whole-sum-le : (xs : List Float) → length xs ≤ most_tracks → All WholeSize xs → whole_sum xs ≤ 2 ^ 24
whole-sum-le xs l h =
    le_trans (total-le 65535 (map number xs) (numbers-of-sizes xs h).1) (rw length-map (most (length xs) l))
  where
    most : (n : ℕ) → n ≤ most_tracks → 65535 * n ≤ 2 ^ 24
    most n h = omega arith

-- ---- the laws

-- a whole size is exactly its number, which is what `number` stands for in the sum below
pub size_exact : (x : Float) → WholeSize x → HasValue x false (number x) 1
unfolding of_int
size_exact x h =
    let a = number-of-size x h in
    subst (λ (z : Float). HasValue z false (number x) 1) a.0 (round_whole binary32 false (number x) (le_trans a.1 (lit≤ tt)))

sum-of-sizes : (x : Float) (xs : List Float) → length (x ∷ xs) ≤ most_tracks → All WholeSize (x ∷ xs) → sum_of (x ∷ xs) ≡ whole (whole_sum (x ∷ xs))
sum-of-sizes x xs l h =
    ap sum_of (sym (numbers-of-sizes (x ∷ xs) h).0) ∙ sum-of-whole (number x) (map number xs) (whole-sum-le (x ∷ xs) l h)

-- one size at least, and 256 at most: the f32 sum is exactly the whole-number sum
pub sum-of-sizes-exact : (x : Float) (xs : List Float) → length (x ∷ xs) ≤ most_tracks → All WholeSize (x ∷ xs) → HasValue (sum_of (x ∷ xs)) false (whole_sum (x ∷ xs)) 1
unfolding of_int
sum-of-sizes-exact x xs l h =
    subst (λ (z : Float). HasValue z false (whole_sum (x ∷ xs)) 1) (sym (sum-of-sizes x xs l h)) (round_whole binary32 false (whole_sum (x ∷ xs)) (whole-sum-le (x ∷ xs) l h))
