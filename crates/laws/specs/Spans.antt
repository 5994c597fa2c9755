-- A loop that looks for one of the elements from a place on, so many of them, or fewer where the list ends: `end` is the place
-- behind the last. Rows are seen through f. Assumes nothing.
use Rattle.std.specs.Prelude.{◌≡◌, Bool, true, false, ◌||◌, List, map, get_or, take, drop}
use Rattle.std.proofs.Common.{sym, ◌∙◌, ⊎_elim, length-drop, take_all}
use Prim.Native.Nat.{ℕ, suc, ◌+◌, ◌-◌, ◌≤◌, ◌<◌, min}
use native.Mathlib.Omega.{arith}
use Rattle.std.proofs.Math.ListN.{length, length-map, get_or-map}
use Rattle.laws.specs.Lists.{some}
use Rattle.laws.specs.Tests.{lt-or-ge}
use Rattle.laws.specs.Walk.{next}

module _ {A : Type 0} where
  pub take-cut : (a n : ℕ) (l : List A) → take (min (a + n) (length l) - a) (drop a l) ≡ take n (drop a l)
  take-cut a n l =
      ⊎_elim
      (λ (h : length l < a + n).
      let e : min (a + n) (length l) - a ≡ length l - a = omega arith in
      rw e (take_all (length l - a) (drop a l) (omega (arith, length-drop a l)) ∙ sym (take_all n (drop a l) (omega (arith, length-drop a l)))))
      (λ (h : a + n ≤ length l). let e : min (a + n) (length l) - a ≡ n = omega arith in rw e)
      (lt-or-ge (length l) (a + n))

module _ {A B : Type 0} (p : B → Bool) (f : A → B) (xs : List A) where
  -- one of those from t up to `end` passes
  abbrev pub some_to : ℕ → ℕ → Bool
  some_to end t = some p (take (end - t) (drop t (map f xs)))

  pub some-cut : (a n end : ℕ) → end ≡ min (a + n) (length xs) → some_to end a ≡ some p (take n (drop a (map f xs)))
  some-cut a n end e = rw (e, ← length-map xs f, take-cut)

  module _ (end t : ℕ) (d : A) (h : t < end) (k : end ≤ length xs) where
    pub some_next : some_to end t ≡ p (f (get_or xs t d)) || some_to end (t + 1)
    unfolding some
    some_next =
        let e : end - t ≡ suc (end - (t + 1)) = omega arith in
        let l : t < length (map f xs) = rw length-map (omega arith) in
        rw (e, next (map f xs) t (f d) l, get_or-map f xs t d)

    -- b is the code's test of the element at t
    module _ {b : Bool} (told : b ≡ p (f (get_or xs t d))) where
      pub some-found : b ≡ true → true ≡ some_to end t
      some-found e = rw (some_next, ← told, e)

      pub some-passed : b ≡ false → some_to end (t + 1) ≡ some_to end t
      some-passed e = rw (some_next, ← told, e)

  pub some_end : (end t : ℕ) → end ≤ t → false ≡ some_to end t
  unfolding some
  some_end end t h = let e : end - t ≡ 0 = omega arith in rw e
