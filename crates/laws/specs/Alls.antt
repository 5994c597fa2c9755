-- What holds of each element. Assumes nothing.
use mathlib.Core.List.{List, [], ◌∷◌, ◌++◌, map}
use Prim.Native.Nat.{ℕ, zero, suc, ◌+◌, ◌<◌}
use Rattle.std.proofs.Common.{arith}
use Rattle.std.proofs.Math.ListN.{length, get_or-map}
use Rattle.std.specs.Prelude.{get_or, take, drop}
use Rattle.std.proofs.lemmas.List.{length-map}
use Rattle.laws.specs.Lists.{All, all-at}
use Rattle.laws.specs.Walk.{next}

module _ {A : Type 0} (P Q : A → Type 0) where
  pub all_map : ((x : A) → P x → Q x) → (xs : List A) → All P xs → All Q xs
  unfolding All
  all_map f [] ps = tt
  all_map f (x ∷ xs) ps = (f x ps.0, all_map f xs ps.1)

  pub all_both : (xs : List A) → All P xs → All Q xs → All (λ (x : A). P x × Q x) xs
  unfolding All
  all_both [] ps qs = tt
  all_both (x ∷ xs) ps qs = ((ps.0, qs.0), all_both xs ps.1 qs.1)

module _ {A : Type 0} (P : A → Type 0) where
  -- at every place
  pub all-of-at : (xs : List A) (d : A) → ((i : ℕ) → i < length xs → P (get_or xs i d)) → All P xs
  unfolding All
  all-of-at [] d h = tt
  all-of-at (x ∷ xs) d h = (h zero (omega arith), all-of-at xs d (λ (i : ℕ) (l : i < length xs). h (suc i) (omega arith)))

  -- in each part of the list
  pub all_take : (n : ℕ) (xs : List A) → All P xs → All P (take n xs)
  unfolding All
  all_take zero xs a = tt
  all_take (suc n) [] a = a
  all_take (suc n) (x ∷ xs) a = (a.0, all_take n xs a.1)

  pub all_drop : (n : ℕ) (xs : List A) → All P xs → All P (drop n xs)
  unfolding All
  all_drop zero xs a = a
  all_drop (suc n) [] a = a
  all_drop (suc n) (x ∷ xs) a = all_drop n xs a.1

  -- the next of those from i on, and the rest of them
  pub all-next : (xs : List A) (i : ℕ) (d : A) → i < length xs → All P (drop i xs) → P (get_or xs i d) × All P (drop (i + 1) xs)
  unfolding All
  all-next xs i d h a = rw (next xs i d h) at a

  pub all-append-left : (xs ys : List A) → All P (xs ++ ys) → All P xs
  unfolding All
  all-append-left [] ys a = tt
  all-append-left (x ∷ xs) ys a = (a.0, all-append-left xs ys a.1)

  pub all-append-right : (xs ys : List A) → All P (xs ++ ys) → All P ys
  unfolding All
  all-append-right [] ys a = a
  all-append-right (x ∷ xs) ys a = all-append-right xs ys a.1

-- ---- seen through f

module _ {A B : Type 0} (Q : B → Type 0) (f : A → B) where
  pub all-image : (P : A → Type 0) → ((x : A) → P x → Q (f x)) → (xs : List A) → All P xs → All Q (map f xs)
  unfolding All
  all-image P each [] ps = tt
  all-image P each (x ∷ xs) ps = (each x ps.0, all-image P each xs ps.1)

  -- of every element, whatever it is
  pub image-all : ((x : A) → Q (f x)) → (xs : List A) → All Q (map f xs)
  unfolding All
  image-all each [] = tt
  image-all each (x ∷ xs) = (each x, image-all each xs)

  pub all-image-at : (xs : List A) (i : ℕ) (d : A) → All Q (map f xs) → i < length xs → Q (f (get_or xs i d))
  all-image-at xs i d qs h = rw (get_or-map f xs i d) at (all-at Q (map f xs) i (f d) qs (rw (length-map xs f) h))
