-- The kit's digits of a number, the fewest that hold it, are its decimal digits. Assumes nothing.
use mathlib.Core.Path.{◌≡◌, refl, sym, ap, ap₂, ◌∙◌}
use mathlib.Core.List.{List, [], ◌∷◌, ◌++◌}
use Prim.Native.Nat.{ℕ, zero, suc, ◌-◌, ◌*◌, ◌/◌, ◌%◌, ◌^◌, ◌≤◌, ◌<◌}
use native.Mathlib.Numerals.{sub-one}
use native.Mathlib.Nat.{div-lt_iff_lt-mul, le-div_iff_mul-le, mod-lt, mod-eq_of_lt, pow-suc, one-le-pow, pow-le-pow_right, div-lt_self, le_of_suc-le-suc, le_trans, zero-lt-suc}
use native.Mathlib.Omega.{arith}
use lib.Dec.{lit<}
use mathlib.Core.Logic.{◌⊎◌, inl, inr, ⊎_elim}
use Rattle.laws.specs.Tests.{lt-or-ge}
use borrow.Author.Tests.{lt-ltb, le-ltb}
use Rattle.io.specs.Digits.{hex_digit_ascii, last_digits, IsDigitCount}
use Rattle.printed.specs.Rule.{digit, decimal_from, decimal}

glyph-is-digit : (d : ℕ) → d < 10 → hex_digit_ascii d ≡ digit d
glyph-is-digit d h = rw (lt-ltb d 10 h)

last-is-digit : (n : ℕ) → hex_digit_ascii (n % 10) ≡ digit (n % 10)
last-is-digit n = glyph-is-digit (n % 10) (mod-lt n (lit< tt))

decimal-small : (most n : ℕ) → n < 10 → decimal_from most n ≡ digit n ∷ []
unfolding decimal_from
decimal-small zero n h = refl
decimal-small (suc most) n h = rw (lt-ltb n 10 h)

decimal-large : (most n : ℕ) → 10 ≤ n → decimal_from (suc most) n ≡ decimal_from most (n / 10) ++ (digit (n % 10) ∷ [])
unfolding decimal_from
decimal-large most n h = rw (le-ltb n 10 h)

-- k + 1 digits, the fewest that hold n
digits-are-decimal : (k most n : ℕ) → n ≤ most → n < 10 ^ suc k → (0 < k → 10 ^ k ≤ n) → last_digits 10 (suc k) n ≡ decimal_from most n
digits-are-decimal zero most n f u l =
    ap (λ (d : ℕ). hex_digit_ascii d ∷ []) (mod-eq_of_lt u) ∙ ap (λ (d : ℕ). d ∷ []) (glyph-is-digit n u) ∙ sym (decimal-small most n u)
digits-are-decimal (suc k) zero n f u l = absurd (omega (arith, l (zero-lt-suc k), pow-suc 10 k, one-le-pow k 10 (lit< tt)))
digits-are-decimal (suc k) (suc most) n f u l =
    let low : 10 ^ suc k ≤ n = l (zero-lt-suc k) in
    let p : 10 ^ suc k ≡ 10 ^ k * 10 = pow-suc 10 k in
    let one : 0 < 10 ^ k = one-le-pow k 10 (lit< tt) in
    ap₂ (λ (ds : List ℕ) (d : ℕ). ds ++ (d ∷ [])) (digits-are-decimal k most (n / 10) (le_of_suc-le-suc (le_trans (div-lt_self (omega arith) (lit< tt)) f)) ((div-lt_iff_lt-mul (lit< tt)).1 (rw (← pow-suc 10 (suc k)) u)) (λ (h : 0 < k). (le-div_iff_mul-le (lit< tt)).1 (rw (← p) low))) (last-is-digit n)
    ∙ sym (decimal-large most n (omega arith))

pub decimal-of-fewest : (n k : ℕ) → IsDigitCount 10 1 n k → last_digits 10 k n ≡ decimal n
decimal-of-fewest n zero h = absurd (omega (arith, h.0))
decimal-of-fewest n (suc k) h = digits-are-decimal k n n (omega arith) h.1 (λ (l : 0 < k). rw sub-one at (h.2 (omega arith)))

-- a u64 has 20 digits at most
pub fewest-le : (n k : ℕ) → n < 2 ^ 64 → IsDigitCount 10 1 n k → k ≤ 20
fewest-le n k u h = ⊎_elim (λ (l : k ≤ 20). l) (λ (l : 21 ≤ k). absurd (over l)) (le-or-gt k)
  where
    le-or-gt : (k : ℕ) → (k ≤ 20) ⊎ (21 ≤ k)
    le-or-gt k = ⊎_elim (λ (l : k < 21). inl (omega arith)) (λ (l : 21 ≤ k). inr l) (lt-or-ge k 21)

    over : 21 ≤ k → ⊥
    over l =
        let low : 10 ^ (k - 1) ≤ n = h.2 (omega arith) in
        let least : 10 ^ 20 ≤ 10 ^ (k - 1) = pow-le-pow_right (lit< tt) {i = 20} {j = k - 1} (omega arith) in
        omega arith
