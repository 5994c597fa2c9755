-- Words for lists in which the rules of a board are said, with what a proof asks of each. Assumes nothing.
use Rattle.std.specs.Prelude.{◌≡◌, refl, Bool, false, true, cond, ◌&&◌, ◌||◌, eqb, length, get_or, set, take, drop}
use Rattle.std.specs.List.{list_any, list_all}
use Rattle.std.proofs.Common.{ap, le_of_suc-le-suc, not-suc-le-zero, arith}
use Prim.Native.Nat.{ℕ, zero, suc, ◌+◌, ◌<◌, max}
use mathlib.Core.List.{List, [], ◌∷◌, ◌++◌, map, zip_with}

-- n is one of these
unfoldable pub among : List ℕ → ℕ → Bool
among [] n = false
among (m ∷ ms) n = eqb n m || among ms n

-- n numbers from k up
unfoldable pub up_from : ℕ → ℕ → List ℕ
up_from k zero = []
up_from k (suc n) = k ∷ up_from (k + 1) n

module _ {A : Type 0} where
  -- those that pass the test
  unfoldable pub keep : (A → Bool) → List A → List A
  keep p [] = []
  keep p (x ∷ xs) = cond (p x) (x ∷ keep p xs) (keep p xs)

  -- one of them passes
  unfoldable pub some : (A → Bool) → List A → Bool
  some p [] = false
  some p (x ∷ xs) = p x || some p xs

  -- all of them pass
  unfoldable pub every : (A → Bool) → List A → Bool
  every p [] = true
  every p (x ∷ xs) = p x && every p xs

  -- std's words for the two
  pub some_of_any : (p : A → Bool) (xs : List A) → list_any p xs ≡ some p xs
  unfolding some
  some_of_any p [] = refl
  some_of_any p (x ∷ xs) = ap (p x ||◌) (some_of_any p xs)

  pub every_of_all : (p : A → Bool) (xs : List A) → list_all p xs ≡ every p xs
  unfolding every
  every_of_all p [] = refl
  every_of_all p (x ∷ xs) = ap (p x &&◌) (every_of_all p xs)

  -- f at the place i
  unfoldable pub change_at : ℕ → (A → A) → List A → List A
  change_at i f [] = []
  change_at zero f (x ∷ xs) = f x ∷ xs
  change_at (suc i) f (x ∷ xs) = x ∷ change_at i f xs

  -- one after another, front to back
  unfoldable pub in_turn : {S : Type 0} → (A → S → S) → List A → S → S
  in_turn f [] s = s
  in_turn f (x ∷ xs) s = in_turn f xs (f x s)

  -- each of them has it
  unfoldable pub All : (A → Type 0) → List A → Type 0
  All P [] = Unit {0}
  All P (x ∷ xs) = P x × All P xs

-- the larger of each two, the first list laid over the second from the place i on
unfoldable pub larger : List ℕ → List ℕ → List ℕ
larger [] ps = ps
larger (g ∷ gs) [] = []
larger (g ∷ gs) (p ∷ ps) = max g p ∷ larger gs ps

unfoldable pub larger_from : ℕ → List ℕ → List ℕ → List ℕ
larger_from zero gs ps = larger gs ps
larger_from (suc i) gs [] = []
larger_from (suc i) gs (p ∷ ps) = p ∷ larger_from i gs ps

-- ---- laws

module _ {A : Type 0} (P : A → Type 0) where
  pub all-at : (xs : List A) (i : ℕ) (d : A) → All P xs → i < length xs → P (get_or xs i d)
  unfolding All
  all-at [] i d a h = absurd (not-suc-le-zero h)
  all-at (x ∷ xs) zero d a h = a.0
  all-at (x ∷ xs) (suc i) d a h = all-at xs i d a.1 (le_of_suc-le-suc h)

  pub all_set : (xs : List A) (i : ℕ) (v : A) → All P xs → P v → All P (set xs i v)
  unfolding All
  all_set [] i v a p = a
  all_set (x ∷ xs) zero v a p = (p, a.1)
  all_set (x ∷ xs) (suc i) v a p = (a.0, all_set xs i v a.1 p)

module _ {A B : Type 0} (f : A → B) where
  -- a store seen through f
  pub map-set : (xs : List A) (i : ℕ) (v : A) → map f (set xs i v) ≡ set (map f xs) i (f v)
  map-set [] i v = refl
  map-set (x ∷ xs) zero v = refl
  map-set (x ∷ xs) (suc i) v = ap (f x ∷◌) (map-set xs i v)

  -- a part seen through f
  pub map-take : (n : ℕ) (xs : List A) → map f (take n xs) ≡ take n (map f xs)
  map-take zero xs = refl
  map-take (suc n) [] = refl
  map-take (suc n) (x ∷ xs) = ap (f x ∷◌) (map-take n xs)

  pub map-drop : (n : ℕ) (xs : List A) → map f (drop n xs) ≡ drop n (map f xs)
  map-drop zero xs = refl
  map-drop (suc n) [] = refl
  map-drop (suc n) (x ∷ xs) = map-drop n xs

pub length-zip : {A B C : Type 0} (f : A → B → C) (xs : List A) (ys : List B) → length ys ≡ length xs → length (zip_with f xs ys) ≡ length xs
unfolding zip_with
length-zip f [] ys e = refl
length-zip f (x ∷ xs) [] e = absurd (omega arith)
length-zip f (x ∷ xs) (y ∷ ys) e = ap suc (length-zip f xs ys (omega arith))

pub in-turn-append : {A S : Type 0} (f : A → S → S) (xs ys : List A) (s : S) → in_turn f (xs ++ ys) s ≡ in_turn f ys (in_turn f xs s)
unfolding in_turn
in-turn-append f [] ys s = refl
in-turn-append f (x ∷ xs) ys s = in-turn-append f xs ys (f x s)
