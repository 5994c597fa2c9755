-- The lowest record at fault as a search for the first row at fault tells it; rows are seen through f, and the first of them is the
-- record `place`. Assumes nothing.
use mathlib.Core.Path.{◌≡◌, refl, sym, ap, ◌∙◌}
use mathlib.Core.Bool.{Bool, true, false, cond}
use Prim.Native.Nat.{ℕ, ◌+◌}
use native.Mathlib.Nat.{add_assoc, add-zero}
use mathlib.Core.List.{List, [], ◌∷◌, map}
use lib.ListN.{length, length-map}
use Rattle.std.specs.Prelude.{Option, Some, None}
use Rattle.std.specs.List.{position, position_from}
use Rattle.std.proofs.lemmas.Iterator.Adapters.{position_from-zero}
use Rattle.records.specs.Rule.{Fault, fine, fault}
use Rattle.kinds.specs.Kinds.{Row, item_of}
use Rattle.kinds.specs.declared.item.Item.{Item}
use Rattle.checks.specs.Rule.{lowest, lowest_item}

module _ {A B : Type 0} (number : ℕ) (bad : B → Bool) (f : A → B) (place : ℕ) where
  abbrev told : Option ℕ → Fault
  told None = fine
  told (Some k) = fault number (place + k)

  lowest-from : (i : ℕ) (xs : List A) → lowest number bad (place + i) (map f xs) ≡ told (position_from (λ (x : A). bad (f x)) i xs)
  unfolding lowest
  lowest-from i [] = refl
  lowest-from i (x ∷ xs) = go (bad (f x)) (rw add_assoc (lowest-from (i + 1) xs))
    where
      go : (b : Bool) → lowest number bad (place + i + 1) (map f xs) ≡ told (position_from (λ (y : A). bad (f y)) (i + 1) xs)
          → cond b (fault number (place + i)) (lowest number bad (place + i + 1) (map f xs)) ≡ told (cond b (Some i) (position_from (λ (y : A). bad (f y)) (i + 1) xs))
      go true e = refl
      go false e = e

  lowest-told : (xs : List A) → lowest number bad place (map f xs) ≡ told (position (λ (x : A). bad (f x)) xs)
  lowest-told xs = rw add-zero at (lowest-from 0 xs) ∙ ap told (sym (position_from-zero (λ (x : A). bad (f x)) xs))

  -- r is the first row at fault
  module _ {r : Option ℕ} (xs : List A) (e : r ≡ position (λ (x : A). bad (f x)) xs) where
    pub lowest-found : {k : ℕ} → r ≡ Some k → fault number (place + k) ≡ lowest number bad place (map f xs)
    lowest-found is = sym (lowest-told xs ∙ ap told (sym e ∙ is))

    pub lowest-none : r ≡ None → fine ≡ lowest number bad place (map f xs)
    lowest-none is = sym (lowest-told xs ∙ ap told (sym e ∙ is))

-- the same of items, whose places go by how many tracks there are
module _ {R T : Type 0} (number : ℕ) (bad : Item → Bool) (g : R → T) (tracks : List R) {r : Option ℕ} (items : List Row) (e : r ≡ position (λ (row : Row). bad (item_of row)) items) where
  pub item-found : {k : ℕ} → r ≡ Some k → fault number (1 + length tracks + k) ≡ lowest_item number bad (map g tracks) (map item_of items)
  item-found is = rw length-map (lowest-found number bad item_of (1 + length tracks) items e is)

  pub item-none : r ≡ None → fine ≡ lowest_item number bad (map g tracks) (map item_of items)
  item-none is = rw length-map (lowest-none number bad item_of (1 + length tracks) items e is)
