-- Two lists walked together, with i as the next place of the first. Assumes nothing.
use Rattle.std.specs.Prelude.{◌≡◌, ℕ, ◌+◌, ◌<◌, length, get_or, drop}
use Rattle.std.proofs.Math.Path.{refl}
use mathlib.Core.List.{List, [], ◌∷◌, zip_with}
use Rattle.laws.specs.Walk.{next}

module _ {A B C : Type 0} (f : A → B → C) where
  pub zip-nil-right : (xs : List A) → zip_with f xs [] ≡ []
  unfolding zip_with
  zip-nil-right [] = refl
  zip-nil-right (x ∷ xs) = refl

  -- one more of both is read
  pub zip-next : (xs : List A) (i : ℕ) (d : A) (y : B) (ys : List B) → i < length xs
      → zip_with f (drop i xs) (y ∷ ys) ≡ f (get_or xs i d) y ∷ zip_with f (drop (i + 1) xs) ys
  unfolding zip_with
  zip-next xs i d y ys h = rw (next xs i d h) refl
