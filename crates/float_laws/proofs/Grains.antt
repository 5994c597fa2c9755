-- A finite value that a format holds is a whole number of the format's smallest values, its grains; and its bit pattern grows with them. Assumes nothing.
use mathlib.Core.Path.{◌≡◌, sym, ap, ◌∙◌, subst}
use mathlib.Core.Logic.{◌⊎◌, inl, inr}
use mathlib.Core.Bool.{Bool, cond, ◌&&◌}
use Prim.Native.Nat.{ℕ, zero, suc, ◌+◌, ◌-◌, ◌*◌, ◌/◌, ◌%◌, ◌^◌, ◌≤◌, ◌<◌, zero-le}
use native.Mathlib.Nat.{le_trans, le_of_eq, lt_of_lt_of_le, lt_of_le_of_lt, lt_of_not-le, lt_irrefl, le_of_suc-le-suc, eq-or-lt_of_le, mul-one, one-mul, zero-mul, mul_comm, mul_assoc, mul_right_comm, mul-pos, mul-le-mul_right, mul-lt-mul_of_pos_right, lt_of_mul-lt-mul_right, mul-div_cancel, add_assoc, add-mul, pow-succ', le-div_iff_mul-le}
use native.Mathlib.Omega.{arith}
use lib.IntN.{ℤ, pos, negsuc}
use lib.Dec.{T, ltb, leb, eqb, ltb→lt, leb→le, eqb→eq, lit<}
use lib.Pow.{pow-add, pow_pos, pow-lt, shr_mono}
use lib.Ieee.{fin, Format, prec, emax, binary32, binary64, low, up, down, size, fits, hid, ones, top, to_bits}
use lib.Ieee.Digits.{back, size-lt, size-le, size_reaches}
use lib.Ieee.Fits.{two, two-le_pos, kept-lt, down_pos, and_l, and_r}

-- ---- what `fits` says of a finite value

down-of-one : (e : ℤ) (l : ℕ) → up e * down e ≡ 1 → down e ≤ 2 ^ l
down-of-one (pos k) l h = pow_pos l
down-of-one (negsuc k) l h = le_trans (le_of_eq (sym (one-mul (2 ^ suc k)) ∙ h)) (pow_pos l)

pub fits-down : (f : Format) (s : Bool) (m : ℕ) (e : ℤ) → T (fits f (fin s m e)) → down e ≤ 2 ^ low f
unfolding fits
fits-down f s zero e h = down-of-one e (low f) (eqb→eq (up e * down e) 1 h)
fits-down f s (suc m) e h =
    let A = eqb (suc m % 2) 1 && ltb (suc m) (2 ^ prec f) in
    let C = leb (down e) (2 ^ low f) in
    let D = ltb (suc m * up e) (2 ^ suc (emax f) * down e) in
    leb→le (down e) (2 ^ low f) (and_r A C (and_l (A && C) D h))

pub fits-digits : (f : Format) (s : Bool) (m : ℕ) (e : ℤ) → T (fits f (fin s m e)) → m < 2 ^ prec f
unfolding fits
fits-digits f s zero e h = pow_pos (prec f)
fits-digits f s (suc m) e h =
    let A = eqb (suc m % 2) 1 in
    let B = ltb (suc m) (2 ^ prec f) in
    let C = leb (down e) (2 ^ low f) in
    let D = ltb (suc m * up e) (2 ^ suc (emax f) * down e) in
    ltb→lt (suc m) (2 ^ prec f) (and_r A B (and_l (A && B) C (and_l (A && B && C) D h)))

pub fits-top : (f : Format) (s : Bool) (m : ℕ) (e : ℤ) → T (fits f (fin s m e)) → m * up e < 2 ^ suc (emax f) * down e
unfolding fits
fits-top f s zero e h = subst (λ (x : ℕ). x < 2 ^ suc (emax f) * down e) (sym (zero-mul (up e))) (mul-pos (pow_pos (suc (emax f))) (down_pos e))
fits-top f s (suc m) e h =
    let A = eqb (suc m % 2) 1 && ltb (suc m) (2 ^ prec f) && leb (down e) (2 ^ low f) in
    let D = ltb (suc m * up e) (2 ^ suc (emax f) * down e) in
    ltb→lt (suc m * up e) (2 ^ suc (emax f) * down e) (and_r A D h)

-- ---- grains

pow_le_back : (a l : ℕ) → 2 ^ a ≤ 2 ^ l → a ≤ l
pow_le_back a l h = le_of_suc-le-suc (lt_of_not-le (λ (g : suc l ≤ a). lt_irrefl (2 ^ l) (lt_of_lt_of_le (pow-lt g) h)))

-- m * 2 ^ e is m * 2 ^ j grains
pub shift : (l : ℕ) (e : ℤ) → down e ≤ 2 ^ l → (j : ℕ) × ((m : ℕ) → m * up e * 2 ^ l ≡ m * 2 ^ j * down e)
shift l (pos a) h = (a + l, λ m. mul_assoc m (2 ^ a) (2 ^ l) ∙ ap (λ (x : ℕ). m * x) (sym (pow-add 2 a l)) ∙ sym (mul-one (m * 2 ^ (a + l))))
shift l (negsuc a) h = (
  l - suc a,
  λ m.
      ap (λ (x : ℕ). x * 2 ^ l) (mul-one m)
      ∙ ap (λ (x : ℕ). m * x) (ap (λ (x : ℕ). 2 ^ x) (sym (back l (suc a) (pow_le_back (suc a) l h))) ∙ pow-add 2 (l - suc a) (suc a))
      ∙ sym (mul_assoc m (2 ^ (l - suc a)) (2 ^ suc a)),
)

abbrev pub grains : Format → ℕ → ℤ → ℕ
grains f m e = m * up e * 2 ^ low f / down e

pub grains-exact : (f : Format) (s : Bool) (m : ℕ) (e : ℤ) → T (fits f (fin s m e)) → m * up e * 2 ^ low f ≡ grains f m e * down e
grains-exact f s m e h =
    let k = shift (low f) e (fits-down f s m e h) in
    k.1 m ∙ ap (λ (x : ℕ). x * down e) (sym (ap (λ (x : ℕ). x / down e) (k.1 m) ∙ mul-div_cancel (m * 2 ^ k.0) (down_pos e)))

pub grains-lt : (f : Format) (s : Bool) (m : ℕ) (e : ℤ) → T (fits f (fin s m e)) → grains f m e < 2 ^ (low f + suc (emax f))
grains-lt f s m e h =
    lt_of_mul-lt-mul_right (down e)
    (subst (λ (x : ℕ). x < 2 ^ (low f + suc (emax f)) * down e) (grains-exact f s m e h)
    (lt_of_lt_of_le (mul-lt-mul_of_pos_right (fits-top f s m e h) (pow_pos (low f)))
    (le_of_eq (mul_right_comm (2 ^ suc (emax f)) (down e) (2 ^ low f) ∙ ap (λ (x : ℕ). x * down e) (mul_comm (2 ^ suc (emax f)) (2 ^ low f) ∙ sym (pow-add 2 (low f) (suc (emax f))))))))

-- ---- the bit pattern without its sign, by the grains

abbrev pub pattern : Format → ℕ → ℕ
pattern f n = (size n - prec f) * hid f + n / 2 ^ (size n - prec f)

pub bits-of-grains : (f : Format) (s : Bool) (m : ℕ) (e : ℤ) → to_bits f (fin s m e) ≡ cond s (top f) 0 + pattern f (grains f m e)
unfolding to_bits
bits-of-grains f s m e =
    let n = grains f m e in
    let k = size n - prec f in
    add_assoc (cond s (top f) 0) (k * hid f) (n / 2 ^ k)

suc-pred : (p : ℕ) → 0 < p → suc (p - 1) ≡ p
suc-pred p h = omega arith

twice_hid : (p : ℕ) → 0 < p → 2 ^ p ≡ 2 * 2 ^ (p - 1)
twice_hid p h = ap (λ (x : ℕ). 2 ^ x) (sym (suc-pred p h)) ∙ pow-succ' 2 (p - 1)

size_mono : (a b : ℕ) → a ≤ b → size a ≤ size b
size_mono a b h = size-le a (size b) (lt_of_le_of_lt h (size-lt b))

leading : (z p : ℕ) → 0 < p → 0 < z - p → p - 1 + (z - p) < z
leading z p P h = omega arith

-- where digits are dropped, the leading one is kept
hid-le : (p n : ℕ) → 0 < p → 0 < size n - p → 2 ^ (p - 1) ≤ n / 2 ^ (size n - p)
hid-le p n P K = (le-div_iff_mul-le (pow_pos (size n - p))).1 (le_trans (le_of_eq (sym (pow-add 2 (p - 1) (size n - p)))) (size_reaches n (p - 1 + (size n - p)) (leading (size n) p P K)))

fewer : (x y p : ℕ) → x ≤ y → x - p ≤ y - p
fewer x y p h = omega arith

add-le : (q x y : ℕ) → x ≤ y → q + x ≤ q + y
add-le q x y h = omega arith

-- q and r stand for j * h and k * h
step-le : (q h r x y : ℕ) → q + h ≤ r → x < 2 * h → h ≤ y → q + x ≤ r + y
step-le q h r x y a b c = omega arith

next_le : (j k h : ℕ) → j < k → j * h + h ≤ k * h
next_le j k h l = le_trans (le_of_eq (step j h)) (mul-le-mul_right h l)
  where
    step : (j h : ℕ) → j * h + h ≡ suc j * h
    step j h = omega arith

pub pattern-mono : (f : Format) (a b : ℕ) → a ≤ b → pattern f a ≤ pattern f b
pattern-mono f a b h = go (eq-or-lt_of_le (fewer (size a) (size b) (prec f) (size_mono a b h)))
  where
    go : (size a - prec f ≡ size b - prec f) ⊎ (size a - prec f < size b - prec f) → pattern f a ≤ pattern f b
    go (inl e) =
        subst (λ (j : ℕ). j * hid f + a / 2 ^ j ≤ pattern f b) (sym e)
        (add-le ((size b - prec f) * hid f) (a / 2 ^ (size b - prec f)) (b / 2 ^ (size b - prec f)) (shr_mono (size b - prec f) h))
    go (inr l) =
        let P : 0 < prec f = two-le_pos (prec f) (two f) in
        step-le ((size a - prec f) * hid f) (hid f) ((size b - prec f) * hid f) (a / 2 ^ (size a - prec f)) (b / 2 ^ (size b - prec f))
        (next_le (size a - prec f) (size b - prec f) (hid f) l)
        (subst (λ (x : ℕ). a / 2 ^ (size a - prec f) < x) (twice_hid (prec f) P) (kept-lt (prec f) a))
        (hid-le (prec f) b P (lt_of_le_of_lt zero-le l))

-- q stands for k * h
under_top : (q x h r : ℕ) → x < 2 * h → q + 2 * h ≤ r → q + x < r
under_top q x h r a b = omega arith

field-le : (z p e : ℕ) → 2 ≤ p → z ≤ e + p - 2 + suc e → 0 < e → z - p + 2 ≤ 2 * e + 1
field-le z p e a b c = omega arith

-- the pattern of a number of grains that is finite is below the one of the infinity
pub pattern_lt : (f : Format) (n : ℕ) → n < 2 ^ (low f + suc (emax f)) → pattern f n < ones f * hid f
pattern_lt f n h =
    let k = size n - prec f in
    under_top (k * hid f) (n / 2 ^ k) (hid f) (ones f * hid f)
    (subst (λ (x : ℕ). n / 2 ^ k < x) (twice_hid (prec f) (two-le_pos (prec f) (two f))) (kept-lt (prec f) n))
    (le_trans (le_of_eq (sym (add-mul k 2 (hid f)))) (mul-le-mul_right (hid f) (field-le (size n) (prec f) (emax f) (two f) (size-le n (low f + suc (emax f)) h) (emax-pos f))))
  where
    emax-pos : (f : Format) → 0 < emax f
    emax-pos binary32 = lit< tt
    emax-pos binary64 = lit< tt
