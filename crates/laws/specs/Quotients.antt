-- A quotient rounded down: when it is 0, and what more sharers make of it. Assumes nothing.
use Rattle.std.specs.Prelude.{◌≡◌, ℕ, ◌+◌, ◌*◌, ◌/◌, ◌≤◌, ◌<◌}
use Rattle.std.proofs.Common.{le_trans, zero-mul, mul-le-mul_left, div-mul-le_self, le-div_iff_mul-le, arith}
use Rattle.std.proofs.Math.Nat.{lt-div-mul-add}

pub lt-of-quotient-zero : (d o : ℕ) → 0 < o → d / o ≡ 0 → d < o
lt-of-quotient-zero d o p q = let l : d < 0 * o + o = rw q at (lt-div-mul-add {a = d} p) in omega (arith, zero-mul o)

pub le-of-quotient-pos : (d o : ℕ) → 0 < o → (d / o ≡ 0 → ⊥) → o ≤ d
le-of-quotient-pos d o p q =
    let l : 1 ≤ d / o = omega arith in
    let m : 1 * o ≤ d = (le-div_iff_mul-le p).0 l in omega arith

-- more sharers, no larger share
pub quotient-antitone : (d o k : ℕ) → 0 < o → o ≤ k → d / k ≤ d / o
quotient-antitone d o k p l = (le-div_iff_mul-le p).1 (le_trans (mul-le-mul_left (d / k) l) (div-mul-le_self d k))
