-- One line of a list, two lists element by element, and numbers going up. Assumes nothing.
use mathlib.Core.Path.{◌≡◌, refl, ap, ◌∙◌}
use mathlib.Core.List.{List, [], ◌∷◌, zip_with}
use Prim.Native.Nat.{ℕ, zero, suc, ◌+◌, ◌<◌}
use native.Mathlib.Nat.{le_of_suc-le-suc, not-suc-le-zero}
use native.Mathlib.Omega.{arith}
use lib.ListN.{length, get_or, take, drop, set}
use lib.Seq.{drop-cons}
use Rattle.laws.specs.Lists.{All, change_at, up_from, in_turn}

module _ {A : Type 0} where
  -- one line of them
  pub part-one : (a : ℕ) (xs : List A) (d : A) → a < length xs → take 1 (drop a xs) ≡ get_or xs a d ∷ []
  part-one a xs d h = rw (drop-cons xs a d h) refl

  -- a store that makes of a line what g makes of it
  pub change-set : (g : A → A) (a : ℕ) (xs : List A) (v d : A) → a < length xs → v ≡ g (get_or xs a d) → set xs a v ≡ change_at a g xs
  unfolding change_at
  change-set g a [] v d h e = absurd (not-suc-le-zero h)
  change-set g zero (x ∷ xs) v d h e = ap (◌∷ xs) e
  change-set g (suc a) (x ∷ xs) v d h e = ap (x ∷◌) (change-set g a xs v d (le_of_suc-le-suc h) e)

-- what holds of each of two lists put together, from what held of the first
module _ {A B C : Type 0} (f : A → B → C) (P : A → Type 0) (Q : C → Type 0) where
  pub all-zip : ((x : A) (y : B) → P x → Q (f x y)) → (xs : List A) (ys : List B) → All P xs → All Q (zip_with f xs ys)
  unfolding zip_with All
  all-zip each [] ys ps = tt
  all-zip each (x ∷ xs) [] ps = tt
  all-zip each (x ∷ xs) (y ∷ ys) ps = (each x y ps.0, all-zip each xs ys ps.1)

-- the next of some numbers going up
module _ {S : Type 0} (f : ℕ → S → S) where
  pub up_turn : (k n m : ℕ) (s s' w : S) → n ≡ suc m → in_turn f (up_from k n) s ≡ w → s' ≡ f k s → in_turn f (up_from (k + 1) m) s' ≡ w
  unfolding in_turn up_from
  up_turn k zero m s s' w h e t = absurd (omega arith)
  up_turn k (suc n) m s s' w h e t = let one : m ≡ n = omega arith in rw one (ap (in_turn f (up_from (k + 1) n)) t ∙ e)

  pub up-end : (k n : ℕ) (s w : S) → n ≡ 0 → in_turn f (up_from k n) s ≡ w → s ≡ w
  unfolding in_turn up_from
  up-end k zero s w h e = e
  up-end k (suc n) s w h e = absurd (omega arith)
