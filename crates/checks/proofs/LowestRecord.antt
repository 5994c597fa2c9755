-- `lowest` tells the lowest record at fault, and none where there is none: it is found just where every test fails, or where
-- a test passes and each one before it fails. Assumes nothing.
use mathlib.Core.Path.{◌≡◌, refl, sym, ap, ◌∙◌}
use mathlib.Core.Bool.{Bool, true, false, cond}
use Prim.Native.Nat.{ℕ, zero, suc, ◌+◌, ◌<◌, suc-le-suc}
use native.Mathlib.Nat.{le_of_suc-le-suc, not-suc-le-zero}
use native.Mathlib.Omega.{arith}
use mathlib.Core.List.{List, [], ◌∷◌, map}
use lib.ListN.{length, get_or, length-map}
use Rattle.laws.specs.Lists.{All}
use Rattle.records.specs.Rule.{Fault, fine, fault}
use Rattle.kinds.specs.declared.item.Item.{Item}
use Rattle.checks.specs.Rule.{lowest, lowest_item}

-- a test that passed is a fault, so none passed
pub false-of-fine : (b : Bool) (number place : ℕ) (f : Fault) → cond b (fault number place) f ≡ fine → (b ≡ false) × (f ≡ fine)
false-of-fine true number place f e = (cc, cc)
false-of-fine false number place f e = (refl, e)

module _ {A : Type 0} (number : ℕ) (bad : A → Bool) where
  pub none-of-fine : (place : ℕ) (xs : List A) → lowest number bad place xs ≡ fine → All (λ (x : A). bad x ≡ false) xs
  unfolding lowest All
  none-of-fine place [] e = tt
  none-of-fine place (x ∷ xs) e =
      let f = false-of-fine (bad x) number place (lowest number bad (place + 1) xs) e in (f.0, none-of-fine (place + 1) xs f.1)

  pub fine-of-none : (place : ℕ) (xs : List A) → All (λ (x : A). bad x ≡ false) xs → lowest number bad place xs ≡ fine
  unfolding lowest All
  fine-of-none place [] a = refl
  fine-of-none place (x ∷ xs) a = rw a.0 (fine-of-none (place + 1) xs a.1)

  pub fault-of-first : (place : ℕ) (xs : List A) (k : ℕ) (d : A) → k < length xs → bad (get_or xs k d) ≡ true
      → ((j : ℕ) → j < k → bad (get_or xs j d) ≡ false) → lowest number bad place xs ≡ fault number (place + k)
  unfolding lowest
  fault-of-first place [] k d h e before = absurd (not-suc-le-zero h)
  fault-of-first place (x ∷ xs) zero d h e before = let z : place ≡ place + 0 = omega arith in rw e (ap (fault number) z)
  fault-of-first place (x ∷ xs) (suc k) d h e before =
      let z : place + 1 + k ≡ place + suc k = omega arith in
      rw (before 0 (omega arith)) (fault-of-first (place + 1) xs k d (le_of_suc-le-suc h) e (λ (j : ℕ) (l : j < k). before (suc j) (suc-le-suc l)) ∙ ap (fault number) z)

-- an item's place goes by how many tracks there are, whatever is read of them
pub lowest-item-of : {R A B : Type 0} (number : ℕ) (bad : Item → Bool) (f : R → A) (g : R → B) (rows : List R) (is : List Item)
    → lowest_item number bad (map f rows) is ≡ lowest_item number bad (map g rows) is
lowest-item-of number bad f g rows is = ap (λ (n : ℕ). lowest number bad (1 + n) is) (length-map rows f ∙ sym (length-map rows g))
