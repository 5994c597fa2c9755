-- A share of a track fits 32 bits. Assumes nothing.
use Prim.Native.Nat.{ℕ, ◌*◌, ◌/◌, ◌≤◌, ◌<◌}
use native.Mathlib.Nat.{mul-le-mul, mul-le-mul_left, div-lt_iff_lt-mul}
use native.Mathlib.Omega.{arith}

-- factor times dots, divided by a thousand or more
pub share-le : (factor dots per : ℕ) → factor ≤ 100000 → dots ≤ 16777215 → 1000 ≤ per → factor * dots / per ≤ 1677721500
share-le factor dots per f d p =
    let m : factor * dots ≤ 100000 * 16777215 = mul-le-mul f d in
    let n : 1677721501 * 1000 ≤ 1677721501 * per = mul-le-mul_left 1677721501 p in
    let l : factor * dots / per < 1677721501 = (div-lt_iff_lt-mul {k = per} (omega arith)).1 (omega arith) in
    omega arith
