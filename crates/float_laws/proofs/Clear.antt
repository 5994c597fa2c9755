-- Sums, products and quotients of values with a clear sign bit have a clear one, and so has the room that a track has below its limit. Assumes nothing.
use mathlib.Core.Path.{◌≡◌, refl, sym, ap, ◌∙◌, subst}
use mathlib.Core.Logic.{◌⊎◌, inl, inr}
use mathlib.Core.Bool.{Bool, true, false, not, cond, ◌&&◌, true≢false, false≢true}
use Prim.Native.Nat.{ℕ, zero, suc, ◌+◌, ◌-◌, ◌*◌, ◌/◌, ◌^◌, ◌≤◌, ◌<◌}
use native.Mathlib.Nat.{le_of_eq, le_trans, mul-pos, mul_comm, mul_assoc, mul_left_comm, mul_right_comm, zero-mul, add-mul, mul-sub, mul-le-mul_right, le_of_mul-le-mul_right, not-le_of_lt, mul-div_cancel, lt_of_mul-lt-mul_right, mul-lt-mul_of_pos_right, suc-mul, one-mul}
use native.Mathlib.Omega.{arith}
use lib.IntN.{ℤ}
use lib.Dec.{T, ltb, eqb, eqb-suc-zero}
use lib.Pow.{pow_pos}
use lib.Ieee.{Float, nan, inf, fin, Format, binary32, prec, emax, low, up, down, odd, units, round, sum, add, sub, mul, div, neg, lt, le, eq, fits, is_nan, of_bits}
use lib.Ieee.Fits.{round_is, round-fits, down_pos}
use lib.Ieee.Exact.{HasValue, round_exact}
use lib.Ieee.Order.{round_mono, kept, drop}
use lib.Ieee.Scale.{finite}
use lib.Ieee.Bits.{is_true}
use borrow.Author.Tests.{le-ltb, ltb-true, eq-eqb}
use Rattle.laws.specs.Tests.{lt-or-ge, never}
use Rattle.float_laws.specs.Std.{clear, IsClear}
use Rattle.float_laws.proofs.Grains.{fits-down, fits-digits, shift, grains, grains-exact, grains-lt}
use Rattle.float_laws.proofs.Order.{eq-same, not-lt-of-le, le-cross}
use Rattle.float_laws.specs.Numbers.{minus_zero, zero32}

-- ---- a rounded fraction has the sign that `round` is handed

odd-sign-is : (d : ℕ) (s : Bool) (q k l : ℕ) → clear (odd d s q k l) ≡ not s
unfolding odd
odd-sign-is d s zero k l = refl
odd-sign-is d s (suc q) k l = refl

units-sign-is : (f : Format) (s : Bool) (q k : ℕ) → clear (units f s q k) ≡ not s
unfolding units
units-sign-is f s q k = go (ltb (q * 2 ^ k) (2 ^ (low f + suc (emax f))))
  where
    go : (b : Bool) → clear (cond b (odd (suc (prec f)) s q k (low f)) (inf s)) ≡ not s
    go true = odd-sign-is (suc (prec f)) s q k (low f)
    go false = refl

pub round-clear : (f : Format) (a c : ℕ) → clear (round f false a c) ≡ true
round-clear f a c = ap clear (round_is f false a c) ∙ units-sign-is f false (kept (prec f) (a * 2 ^ low f) c) (drop (prec f) (a * 2 ^ low f) c)

-- ---- sums, products, quotients

pub add-clear : (f : Format) (x y : Float) → clear x ≡ true → clear y ≡ true → clear (add f x y) ≡ true
unfolding add sum
add-clear f nan y p q = absurd (false≢true p)
add-clear f (inf true) y p q = absurd (false≢true p)
add-clear f (fin true m e) y p q = absurd (false≢true p)
add-clear f (inf false) nan p q = absurd (false≢true q)
add-clear f (inf false) (inf true) p q = absurd (false≢true q)
add-clear f (inf false) (inf false) p q = refl
add-clear f (inf false) (fin t n d) p q = refl
add-clear f (fin false m e) nan p q = absurd (false≢true q)
add-clear f (fin false m e) (inf t) p q = q
add-clear f (fin false m e) (fin true n d) p q = absurd (false≢true q)
add-clear f (fin false m e) (fin false n d) p q = round-clear f (m * up e * down d + n * up d * down e) (down e * down d)

unless-nan : (b : Bool) (x : Float) → clear x ≡ true → is_nan (cond b nan x) ≡ false → clear (cond b nan x) ≡ true
unfolding is_nan
unless-nan true x p h = absurd (true≢false h)
unless-nan false x p h = p

-- a NaN comes only from 0 times an infinity
pub mul-clear : (f : Format) (x y : Float) → clear x ≡ true → clear y ≡ true → is_nan (mul f x y) ≡ false → clear (mul f x y) ≡ true
unfolding mul is_nan
mul-clear f nan y p q k = absurd (false≢true p)
mul-clear f (inf true) y p q k = absurd (false≢true p)
mul-clear f (fin true m e) y p q k = absurd (false≢true p)
mul-clear f (inf false) nan p q k = absurd (false≢true q)
mul-clear f (inf false) (inf true) p q k = absurd (false≢true q)
mul-clear f (inf false) (inf false) p q k = refl
mul-clear f (inf false) (fin true n d) p q k = absurd (false≢true q)
mul-clear f (inf false) (fin false n d) p q k = unless-nan (eqb n 0) (inf false) refl k
mul-clear f (fin false m e) nan p q k = absurd (false≢true q)
mul-clear f (fin false m e) (inf true) p q k = absurd (false≢true q)
mul-clear f (fin false m e) (inf false) p q k = unless-nan (eqb m 0) (inf false) refl k
mul-clear f (fin false m e) (fin true n d) p q k = absurd (false≢true q)
mul-clear f (fin false m e) (fin false n d) p q k = round-clear f (m * up e * (n * up d)) (down e * down d)

-- finite factors never give a NaN
pub mul-finite-clear : (f : Format) (x y : Float) → clear x ≡ true → clear y ≡ true → T (finite x) → T (finite y) → clear (mul f x y) ≡ true
unfolding mul
mul-finite-clear f nan y p q a b = absurd a
mul-finite-clear f (inf s) y p q a b = absurd a
mul-finite-clear f (fin true m e) y p q a b = absurd (false≢true p)
mul-finite-clear f (fin false m e) nan p q a b = absurd b
mul-finite-clear f (fin false m e) (inf t) p q a b = absurd b
mul-finite-clear f (fin false m e) (fin true n d) p q a b = absurd (false≢true q)
mul-finite-clear f (fin false m e) (fin false n d) p q a b = round-clear f (m * up e * (n * up d)) (down e * down d)

-- a NaN comes only from 0 / 0 and from an infinity by an infinity
pub div-clear : (f : Format) (x y : Float) → clear x ≡ true → clear y ≡ true → is_nan (div f x y) ≡ false → clear (div f x y) ≡ true
unfolding div is_nan
div-clear f nan y p q k = absurd (false≢true p)
div-clear f (inf true) y p q k = absurd (false≢true p)
div-clear f (fin true m e) y p q k = absurd (false≢true p)
div-clear f (inf false) nan p q k = absurd (false≢true q)
div-clear f (inf false) (inf t) p q k = absurd (true≢false k)
div-clear f (inf false) (fin true n d) p q k = absurd (false≢true q)
div-clear f (inf false) (fin false n d) p q k = refl
div-clear f (fin false m e) nan p q k = absurd (false≢true q)
div-clear f (fin false m e) (inf true) p q k = absurd (false≢true q)
div-clear f (fin false m e) (inf false) p q k = refl
div-clear f (fin false m e) (fin true n d) p q k = absurd (false≢true q)
div-clear f (fin false m e) (fin false n d) p q k = go (eqb n 0) k
  where
    go : (b : Bool) → is_nan (cond b (cond (eqb m 0) nan (inf false)) (round f false (m * up e * down d) (n * up d * down e))) ≡ false
        → clear (cond b (cond (eqb m 0) nan (inf false)) (round f false (m * up e * down d) (n * up d * down e))) ≡ true
    go true h = unless-nan (eqb m 0) (inf false) refl h
    go false h = round-clear f (m * up e * down d) (n * up d * down e)

-- ---- a value above 0.0

pub clear-of-above-zero : (x : Float) → lt zero32 x ≡ true → clear x ≡ true
unfolding lt of_bits
clear-of-above-zero nan h = absurd (false≢true h)
clear-of-above-zero (inf s) h = h
clear-of-above-zero (fin true m e) h = absurd (false≢true h)
clear-of-above-zero (fin false m e) h = refl

above-zero-digits : (m : ℕ) (e : ℤ) → lt zero32 (fin false m e) ≡ true → eqb m 0 ≡ false
unfolding lt of_bits
above-zero-digits zero e h = absurd (not-le_of_lt (ltb-true (0 * 1 * down e) (0 * up e * 1) h) (le_of_eq (ap (λ (x : ℕ). x * 1) (zero-mul (up e)) ∙ sym (zero-mul (down e)))))
above-zero-digits (suc m) e h = eqb-suc-zero m

-- a quotient by a finite value above 0.0
pub div-above-zero-clear : (f : Format) (x y : Float) → clear x ≡ true → T (finite y) → lt zero32 y ≡ true → clear (div f x y) ≡ true
unfolding div
div-above-zero-clear f x nan p b h = absurd b
div-above-zero-clear f x (inf t) p b h = absurd b
div-above-zero-clear f x (fin true n d) p b h = absurd (false≢true (clear-of-above-zero (fin true n d) h))
div-above-zero-clear f nan (fin false n d) p b h = absurd (false≢true p)
div-above-zero-clear f (inf true) (fin false n d) p b h = absurd (false≢true p)
div-above-zero-clear f (inf false) (fin false n d) p b h = refl
div-above-zero-clear f (fin true m e) (fin false n d) p b h = absurd (false≢true p)
div-above-zero-clear f (fin false m e) (fin false n d) p b h =
    ap (λ (t : Bool). clear (cond t (cond (eqb m 0) nan (inf false)) (round f false (m * up e * down d) (n * up d * down e)))) (above-zero-digits n d h)
    ∙ round-clear f (m * up e * down d) (n * up d * down e)

-- ---- a value that the format holds is its own rounding

same-value : (f : Format) (x : Float) (m : ℕ) (e : ℤ) → T (fits f x) → T (fits f (fin false m e)) → HasValue x false (m * up e) (down e) → x ≡ fin false m e
unfolding eq
same-value f nan m e p q v = absurd v
same-value f (inf s) m e p q v = absurd v
same-value f (fin true n d) m e p q v = absurd (true≢false v.0)
same-value f (fin false n d) m e p q v =
    eq-same f (fin false n d) (fin false m e) p q refl refl (ap (λ (t : Bool). t && true) (eq-eqb (n * up d * down e) (m * up e * down d) v.1))

pub round-held : (f : Format) (m : ℕ) (e : ℤ) → T (fits f (fin false m e)) → round f false (m * up e) (down e) ≡ fin false m e
round-held f m e p =
    let j = shift (low f) e (fits-down f false m e p) in
    same-value f (round f false (m * up e) (down e)) m e (round-fits f false (m * up e) (down e)) p
    (round_exact f false (m * up e) (down e) m j.0 (down_pos e) (fits-digits f false m e p) (held j.0 (j.1 m)) (j.1 m))
  where
    held : (j : ℕ) → m * up e * 2 ^ low f ≡ m * 2 ^ j * down e → m * 2 ^ j < 2 ^ (low f + suc (emax f))
    held j h = subst (λ (x : ℕ). x < 2 ^ (low f + suc (emax f))) (ap (λ (x : ℕ). x / down e) h ∙ mul-div_cancel (m * 2 ^ j) (down_pos e)) (grains-lt f false m e p)

-- ---- differences

sum-of-larger : (f : Format) (a b c : ℕ) → b ≤ a → sum f false a true b c ≡ round f false (a - b) c
unfolding sum
sum-of-larger f a b c h = ap (λ (t : Bool). cond t (round f true (b - a) c) (round f false (a - b) c)) (le-ltb a b h)

sub-finite : (f : Format) (m : ℕ) (e : ℤ) (n : ℕ) (d : ℤ) → n * up d * down e ≤ m * up e * down d → sub f (fin false m e) (fin false n d) ≡ round f false (m * up e * down d - n * up d * down e) (down e * down d)
unfolding sub
sub-finite f m e n d h = sum-of-larger f (m * up e * down d) (n * up d * down e) (down e * down d) h

-- x - y for a finite y that is not above x
pub sub-clear-of-le : (f : Format) (x y : Float) → clear x ≡ true → clear y ≡ true → T (finite y) → le y x ≡ true → clear (sub f x y) ≡ true
unfolding sub
sub-clear-of-le f x nan p q b h = absurd b
sub-clear-of-le f x (inf t) p q b h = absurd b
sub-clear-of-le f x (fin true n d) p q b h = absurd (false≢true q)
sub-clear-of-le f nan (fin false n d) p q b h = absurd (false≢true p)
sub-clear-of-le f (inf true) (fin false n d) p q b h = absurd (false≢true p)
sub-clear-of-le f (inf false) (fin false n d) p q b h = refl
sub-clear-of-le f (fin true m e) (fin false n d) p q b h = absurd (false≢true p)
sub-clear-of-le f (fin false m e) (fin false n d) p q b h =
    ap clear (sub-finite f m e n d (le-cross n d m e h)) ∙ round-clear f (m * up e * down d - n * up d * down e) (down e * down d)

-- ---- the room: what is left of the limit l behind the size s and the increase i

-- a fraction that rounds below a value is below it
below-of-round-below : (f : Format) (a c : ℕ) (m : ℕ) (e : ℤ) → 0 < c → T (fits f (fin false m e)) → lt (round f false a c) (fin false m e) ≡ true → a * down e < m * up e * c
below-of-round-below f a c m e C p h = go (lt-or-ge (a * down e) (m * up e * c))
  where
    go : (a * down e < m * up e * c) ⊎ (m * up e * c ≤ a * down e) → a * down e < m * up e * c
    go (inl l) = l
    go (inr g) =
        let r = round f false a c in
        let held : le (fin false m e) r ≡ true =
        subst (λ (x : Float). le x r ≡ true) (round-held f m e p) (is_true (le (round f false (m * up e) (down e)) r) (round_mono f (m * up e) (down e) a c (down_pos e) C g)) in
        never h (not-lt-of-le (fin false m e) r refl (round-clear f a c) held)

-- a / da + b / db < c / dc, so a / da ≤ c / dc
first-le : (a da b db c dc : ℕ) → 0 < db → (a * db + b * da) * dc < c * (da * db) → a * dc ≤ c * da
first-le a da b db c dc D h =
    let x : (a * db + b * da) * dc ≡ a * dc * db + b * da * dc = simp (add-mul, mul_assoc, mul_comm, mul_left_comm) in
    let y : c * (da * db) ≡ c * da * db = sym (mul_assoc c da db) in
    le_of_mul-le-mul_right (omega arith) D

-- and b / db ≤ c / dc - a / da
second-le : (a da b db c dc : ℕ) → (a * db + b * da) * dc < c * (da * db) → b * (dc * da) ≤ (c * da - a * dc) * db
second-le a da b db c dc h =
    let x : (a * db + b * da) * dc ≡ a * dc * db + b * (dc * da) = simp (add-mul, mul_assoc, mul_comm, mul_left_comm) in
    let y : c * (da * db) ≡ c * da * db = sym (mul_assoc c da db) in
    let z : (c * da - a * dc) * db ≡ c * da * db - a * dc * db = mul_comm (c * da - a * dc) db ∙ mul-sub db (c * da) (a * dc) ∙ rw (mul_comm db (c * da), mul_comm db (a * dc)) in
    omega arith

add-finite : (f : Format) (m : ℕ) (e : ℤ) (n : ℕ) (d : ℤ) → add f (fin false m e) (fin false n d) ≡ round f false (m * up e * down d + n * up d * down e) (down e * down d)
unfolding add sum
add-finite f m e n d = refl

finite-room-clear : (a : ℕ) (ea : ℤ) (b : ℕ) (eb : ℤ) (c : ℕ) (ec : ℤ) → T (fits binary32 (fin false b eb)) → T (fits binary32 (fin false c ec))
    → lt (add binary32 (fin false a ea) (fin false b eb)) (fin false c ec) ≡ true → clear (sub binary32 (sub binary32 (fin false c ec) (fin false a ea)) (fin false b eb)) ≡ true
finite-room-clear a ea b eb c ec q k h =
    let A = a * up ea in
    let B = b * up eb in
    let C = c * up ec in
    let exact : (A * down eb + B * down ea) * down ec < C * (down ea * down eb) =
    below-of-round-below binary32 (A * down eb + B * down ea) (down ea * down eb) c ec (mul-pos (down_pos ea) (down_pos eb)) k (rw (add-finite binary32 a ea b eb) at h) in
    let left = round binary32 false (C * down ea - A * down ec) (down ec * down ea) in
    let is : sub binary32 (fin false c ec) (fin false a ea) ≡ left = sub-finite binary32 c ec a ea (first-le A (down ea) B (down eb) C (down ec) (down_pos eb) exact) in
    let enough : le (fin false b eb) left ≡ true =
    subst (λ (x : Float). le x left ≡ true) (round-held binary32 b eb q)
    (is_true (le (round binary32 false B (down eb)) left)
    (round_mono binary32 B (down eb) (C * down ea - A * down ec) (down ec * down ea) (down_pos eb) (mul-pos (down_pos ec) (down_pos ea)) (second-le A (down ea) B (down eb) C (down ec) exact))) in
    ap (λ (x : Float). clear (sub binary32 x (fin false b eb))) is
    ∙ sub-clear-of-le binary32 left (fin false b eb) (round-clear binary32 (C * down ea - A * down ec) (down ec * down ea)) refl tt enough

pub room-clear : (s i l : Float) → IsClear s → IsClear i → IsClear l → T (finite s) → lt (add binary32 s i) l ≡ true → clear (sub binary32 (sub binary32 l s) i) ≡ true
unfolding sub lt
room-clear nan i l p q k a h = absurd a
room-clear (inf t) i l p q k a h = absurd a
room-clear (fin true m e) i l p q k a h = absurd (false≢true p.1)
room-clear (fin false m e) nan l p q k a h = absurd (false≢true q.1)
room-clear (fin false m e) (inf true) l p q k a h = absurd (false≢true q.1)
room-clear (fin false m e) (fin true n d) l p q k a h = absurd (false≢true q.1)
room-clear (fin false m e) (inf false) nan p q k a h = absurd (false≢true k.1)
room-clear (fin false m e) (inf false) (inf true) p q k a h = absurd (false≢true k.1)
room-clear (fin false m e) (inf false) (inf false) p q k a h = absurd (false≢true h)
room-clear (fin false m e) (inf false) (fin t c d) p q k a h = absurd (false≢true h)
room-clear (fin false m e) (fin false n d) nan p q k a h = absurd (false≢true k.1)
room-clear (fin false m e) (fin false n d) (inf true) p q k a h = absurd (false≢true k.1)
room-clear (fin false m e) (fin false n d) (inf false) p q k a h = refl
room-clear (fin false m e) (fin false n d) (fin true c b) p q k a h = absurd (false≢true k.1)
room-clear (fin false m e) (fin false n d) (fin false c b) p q k a h = finite-room-clear m e n d c b q.0 k.0 h

-- the room in shares of the proportion p
pub room-share-clear : (s i l p : Float) → IsClear s → IsClear i → IsClear l → T (finite s) → T (finite p) → lt zero32 p ≡ true → lt (add binary32 s i) l ≡ true
    → clear (div binary32 (sub binary32 (sub binary32 l s) i) p) ≡ true
room-share-clear s i l p cs ci cl fs fp above below = div-above-zero-clear binary32 (sub binary32 (sub binary32 l s) i) p (room-clear s i l cs ci cl fs below) fp above

-- ---- a difference of clear values is never -0.0

odd-neg : (d : ℕ) (s : Bool) (q k l : ℕ) → neg (odd d s q k l) ≡ odd d (not s) q k l
unfolding odd neg
odd-neg d s zero k l = refl
odd-neg d s (suc q) k l = refl

units-neg : (f : Format) (s : Bool) (q k : ℕ) → neg (units f s q k) ≡ units f (not s) q k
unfolding units neg
units-neg f s q k = go (ltb (q * 2 ^ k) (2 ^ (low f + suc (emax f))))
  where
    go : (b : Bool) → neg (cond b (odd (suc (prec f)) s q k (low f)) (inf s)) ≡ cond b (odd (suc (prec f)) (not s) q k (low f)) (inf (not s))
    go true = odd-neg (suc (prec f)) s q k (low f)
    go false = refl

-- `round` treats both signs alike
pub round-neg : (f : Format) (s : Bool) (a c : ℕ) → neg (round f s a c) ≡ round f (not s) a c
round-neg f s a c = ap neg (round_is f s a c) ∙ units-neg f s (kept (prec f) (a * 2 ^ low f) c) (drop (prec f) (a * 2 ^ low f) c) ∙ sym (round_is f (not s) a c)

-- two whole numbers of grains, g and h, that differ, differ by one at least
one-grain : (a b g h c l : ℕ) → 0 < l → a * l ≡ g * c → b * l ≡ h * c → a < b → 1 * c ≤ (b - a) * l
one-grain a b g h c l L p q k =
    let x : g < h = lt_of_mul-lt-mul_right c (subst (λ (z : ℕ). z < h * c) p (subst (λ (z : ℕ). a * l < z) q (mul-lt-mul_of_pos_right k L))) in
    let y : g * c + c ≤ h * c = le_trans (le_of_eq (sym (suc-mul g c))) (mul-le-mul_right c x) in
    let z : (b - a) * l ≡ b * l - a * l = mul_comm (b - a) l ∙ mul-sub l b a ∙ rw (mul_comm l b, mul_comm l a) in
    let w : 1 * c ≡ c = one-mul c in
    omega arith

-- the smallest value above 0.0 is above it
smallest-above : le (round binary32 false 1 (2 ^ 149)) zero32 ≡ false
unfolding le round of_bits
smallest-above = refl

round-not-zero : (a c : ℕ) → 0 < c → 1 * c ≤ a * 2 ^ 149 → round binary32 false a c ≡ zero32 → ⊥
round-not-zero a c C h e =
    true≢false (sym (is_true (le (round binary32 false 1 (2 ^ 149)) zero32) (subst (λ (x : Float). T (le (round binary32 false 1 (2 ^ 149)) x)) e (round_mono binary32 1 (2 ^ 149) a c (pow_pos 149) C h))) ∙ smallest-above)

minus-zero-not-clear : clear minus_zero ≡ false
unfolding neg of_bits
minus-zero-not-clear = refl

neg-minus-zero : neg minus_zero ≡ zero32
unfolding neg of_bits
neg-minus-zero = refl

minus-zero-finite : finite minus_zero ≡ true
unfolding neg of_bits
minus-zero-finite = refl

not_finite : (x : Float) → finite x ≡ false → x ≡ minus_zero → ⊥
not_finite x h e = false≢true (sym h ∙ ap finite e ∙ minus-zero-finite)

-- a / c - b / c, where both are whole numbers of grains
difference-not-minus-zero : (a b g h c : ℕ) → 0 < c → a * 2 ^ 149 ≡ g * c → b * 2 ^ 149 ≡ h * c → sum binary32 false a true b c ≡ minus_zero → ⊥
unfolding sum
difference-not-minus-zero a b g h c C p q e = go (ltb a b) refl e
  where
    go : (t : Bool) → ltb a b ≡ t → cond t (round binary32 true (b - a) c) (round binary32 false (a - b) c) ≡ minus_zero → ⊥
    go true l k = round-not-zero (b - a) c C (one-grain a b g h c (2 ^ 149) (pow_pos 149) p q (ltb-true a b l)) (sym (round-neg binary32 true (b - a) c) ∙ ap neg k ∙ neg-minus-zero)
    go false l k = true≢false (sym (round-clear binary32 (a - b) c) ∙ ap clear k ∙ minus-zero-not-clear)

pub sub-not-minus-zero : (x y : Float) → IsClear x → IsClear y → sub binary32 x y ≡ minus_zero → ⊥
unfolding sub
sub-not-minus-zero nan y p q e = absurd (false≢true p.1)
sub-not-minus-zero (inf true) y p q e = absurd (false≢true p.1)
sub-not-minus-zero (fin true m d) y p q e = absurd (false≢true p.1)
sub-not-minus-zero (inf false) nan p q e = absurd (false≢true q.1)
sub-not-minus-zero (inf false) (inf true) p q e = absurd (false≢true q.1)
sub-not-minus-zero (inf false) (inf false) p q e = not_finite nan refl e
sub-not-minus-zero (inf false) (fin t n d) p q e = not_finite (inf false) refl e
sub-not-minus-zero (fin false m d) nan p q e = absurd (false≢true q.1)
sub-not-minus-zero (fin false m d) (inf t) p q e = not_finite (inf (not t)) refl e
sub-not-minus-zero (fin false m d) (fin true n k) p q e = absurd (false≢true q.1)
sub-not-minus-zero (fin false m d) (fin false n k) p q e =
    difference-not-minus-zero (m * up d * down k) (n * up k * down d) (grains binary32 m d) (grains binary32 n k) (down d * down k) (mul-pos (down_pos d) (down_pos k))
    (mul_right_comm (m * up d) (down k) (2 ^ 149) ∙ ap (λ (z : ℕ). z * down k) (grains-exact binary32 false m d p.0) ∙ mul_assoc (grains binary32 m d) (down d) (down k))
    (mul_right_comm (n * up k) (down d) (2 ^ 149) ∙ ap (λ (z : ℕ). z * down d) (grains-exact binary32 false n k q.0) ∙ mul_assoc (grains binary32 n k) (down k) (down d) ∙ ap (λ (z : ℕ). grains binary32 n k * z) (mul_comm (down k) (down d)))
    e
