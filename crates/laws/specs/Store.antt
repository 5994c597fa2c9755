-- The front of a store that holds one value everywhere. Assumes nothing.
use Rattle.std.specs.Prelude.{◌≡◌, refl, ◌∷◌, ℕ, zero, suc, ◌≤◌, length, take, replicate}
use Rattle.std.proofs.Common.{ap, ◌∙◌, le_of_suc-le-suc, not-suc-le-zero}
use Rattle.std.proofs.lemmas.List.{length-replicate}

module _ {A : Type 0} where
  pub take-replicate : (n m : ℕ) (x : A) → n ≤ m → take n (replicate m x) ≡ replicate n x
  take-replicate zero m x h = refl
  take-replicate (suc n) zero x h = absurd (not-suc-le-zero h)
  take-replicate (suc n) (suc m) x h = ap (x ∷◌) (take-replicate n m x (le_of_suc-le-suc h))

  pub length_front : (n m : ℕ) (x : A) → n ≤ m → length (take n (replicate m x)) ≡ n
  length_front n m x h = ap length (take-replicate n m x h) ∙ length-replicate n x
