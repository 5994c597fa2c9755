-- A turn and the end of each loop over the rests, said of lists. Assumes nothing.
use Rattle.std.proofs.Common.{◌≡◌, ℕ, ◌+◌, ◌%◌, ◌<◌, ◌≤◌, min, Bool, true, false, cond, eqb, List, length, get_or, drop, refl, ap, arith, drop_of_length-le, eqb-true}
use borrow.Author.Tests.{eqb-false}
use Rattle.laws.specs.Walk.{next}
use Rattle.rounds.specs.Rests.{open_rests, lowered, least_rest}

module _ (l : List ℕ) (i : ℕ) where
  pub open_step : i < length l → open_rests (drop i l) ≡ min 1 (get_or l i 0) + open_rests (drop (i + 1) l)
  unfolding open_rests
  open_step h = ap open_rests (next l i 0 h)

  pub open-end : length l ≤ i → open_rests (drop i l) ≡ 0
  unfolding open_rests
  open-end h = ap open_rests (drop_of_length-le l h)

  pub least_step : (m v w : ℕ) → i < length l → v ≡ lowered m (get_or l i 0) → least_rest m (drop i l) ≡ w → least_rest v (drop (i + 1) l) ≡ w
  unfolding least_rest
  least_step m v w h e p = rw (← p, next l i 0, e)

  pub least-end : (m w : ℕ) → length l ≤ i → least_rest m (drop i l) ≡ w → m ≡ w
  unfolding least_rest
  least-end m w h p = rw (drop_of_length-le l) at p

min_assoc : (a b c : ℕ) → min a (min b c) ≡ min (min a b) c
min_assoc a b c = omega arith

-- b is the least room so far less one, which a rest x less one lowers; 0 less one wraps, and lowers nothing
pub lowered-less-one : (most b x y : ℕ) → b < 4294967295 → x < 4294967296 → y ≡ min b ((x + 4294967295) % 4294967296) → min most (y + 1) ≡ lowered (min most (b + 1)) x
lowered-less-one most b x y h k p = go (eqb x 0) refl
  where
    go : (t : Bool) → eqb x 0 ≡ t → min most (y + 1) ≡ cond t (min most (b + 1)) (min (min most (b + 1)) x)
    go true e =
        let z : x ≡ 0 = eqb-true x 0 e in
        let u : y ≡ b = omega (arith, z) in
        rw u
    go false e =
        let n : (x ≡ 0 → ⊥) = eqb-false x 0 e in
        let u : y + 1 ≡ min (b + 1) x = omega (arith, n) in
        rw u (min_assoc most (b + 1) x)
