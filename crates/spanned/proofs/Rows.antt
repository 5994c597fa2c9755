-- One of the rows that an item spans passes: so does one of the tracks that they say. Assumes nothing.
use Rattle.std.proofs.Common.{◌≡◌, refl, ap, ◌∙◌, Bool, List, [], ◌∷◌, ◌||◌, map, drop}
use Rattle.std.specs.List.{list_any}
use Rattle.laws.specs.Lists.{some, some_of_any, map-take, map-drop}
use Rattle.kinds.specs.declared.item.Item.{Item}
use Rattle.spanned.specs.Rule.{spanned}

module _ {A B : Type 0} (p : B → Bool) (f : A → B) where
  some-image : (xs : List A) → some (λ x. p (f x)) xs ≡ some p (map f xs)
  unfolding some
  some-image [] = refl
  some-image (x ∷ xs) = ap (p (f x) ||◌) (some-image xs)

  pub any_spanned : (i : Item) (xs : List A) → list_any (λ x. p (f x)) (spanned i xs) ≡ some p (spanned i (map f xs))
  any_spanned i xs = rw (← map-drop f i.start xs, ← map-take f i.span (drop i.start xs)) (some_of_any (λ x. p (f x)) (spanned i xs) ∙ some-image (spanned i xs))
