-- A kind and the tag and number that say it: each gives the other back where they have no fault, and those of a kind have none.
-- Assumes nothing.
use mathlib.Core.Path.{◌≡◌, refl}
use mathlib.Core.Logic.{⊎_elim}
use mathlib.Core.Bool.{Bool, true, false, cond}
use Prim.Native.Nat.{ℕ, ◌+◌}
use mathlib.Core.List.{List, [], ◌∷◌}
use lib.Dec.{eqb}
use borrow.Author.Tests.{eqb-true}
use Rattle.std.specs.Prelude.{None, Some}
use Rattle.laws.specs.Marks.{bit}
use Rattle.laws.specs.Tests.{true-or-false, never}
use Rattle.laws.specs.Lists.{among}
use Rattle.laws.specs.Faults.{fine-test}
use Rattle.records.specs.Rule.{Tags, constraint_tags, given_tags, minimum_tags, maximum_tags, stretch_bytes, axis_bytes, tagged_fault, fine, fault, unless}
use Rattle.kinds.specs.Kinds.{amount_tag, amount_number, amount_of, constraint_tag, constraint_number, constraint_of}
use Rattle.sheet_kinds.specs.Kinds.{axis_byte, axis_of, sheet_minimum_tag, sheet_minimum_number, sheet_minimum_of, sheet_maximum_tag, sheet_maximum_number, sheet_maximum_of}
use Rattle.kinds.specs.declared.constraint.Constraint.TheVariants as constraint
use Rattle.sheet_kinds.specs.declared.axis.Axis.{Axis}
use Rattle.sheet_kinds.specs.declared.axis.Axis.TheVariants.{Inline, Block}
use Rattle.sheet_kinds.specs.declared.track.SheetMinimum.TheVariants as minimum
use Rattle.sheet_kinds.specs.declared.track.SheetMaximum.TheVariants as maximum

-- ---- a tag and number without fault, case by case

abbrev Each : (ℕ → Type 0) → List ℕ → Type 0
Each P [] = Unit
Each P (m ∷ ms) = P m × Each P ms

-- what holds of each in a list holds of a number that is in it
each_in : (P : ℕ → Type 0) (ms : List ℕ) → Each P ms → (n : ℕ) → among ms n ≡ true → P n
unfolding among
each_in P [] h n e = never e refl
each_in P (m ∷ ms) h n e =
    ⊎_elim
    (λ (t : eqb n m ≡ true). rw (eqb-true n m t) h.0)
    (λ (t : eqb n m ≡ false). each_in P ms h.1 n (rw t at e))
    (true-or-false (eqb n m))

-- what holds of each carrying tag with any number, and of each bare one with 0, holds of a tag and number without fault
tagged-cases : (P : ℕ → ℕ → Type 0) (tags : Tags) → Each (λ tag. (n : ℕ) → P tag n) tags.carrying → Each (λ tag. P tag 0) tags.bare → (tag n p : ℕ) → tagged_fault tags tag n p ≡ fine → P tag n
unfolding tagged_fault
tagged-cases P tags hc hb tag n p e =
    go (among tags.carrying tag) (among tags.bare tag) (each_in _ tags.carrying hc tag) (each_in _ tags.bare hb tag) e
  where
    go : (c b : Bool) → (c ≡ true → (n : ℕ) → P tag n) → (b ≡ true → P tag 0) → cond c fine (cond b (unless (eqb n 0) (fault 5 (p + 1))) (fault 4 p)) ≡ fine → P tag n
    go true b x y h = x refl n
    go false true x y h = rw (eqb-true n 0 (fine-test (eqb n 0) _ _ h)) (y refl)
    go false false x y h = x (cc) n

-- ---- each kind

module _ {K : Type 0} (tags : Tags) (tag_of number_of : K → ℕ) (kind_of : ℕ → ℕ → K) where
  -- a kind's tag and number say it, and have no fault
  abbrev pub Said : Type 0
  Said = (k : K) → (kind_of (tag_of k) (number_of k) ≡ k) × ((p : ℕ) → tagged_fault tags (tag_of k) (number_of k) p ≡ fine)

  -- a tag and number without fault are those of the kind which they say
  abbrev pub Kept : Type 0
  Kept = (tag n p : ℕ) → tagged_fault tags tag n p ≡ fine → (tag_of (kind_of tag n) ≡ tag) × (number_of (kind_of tag n) ≡ n)

pub constraint-said : Said constraint_tags constraint_tag constraint_number constraint_of
unfolding tagged_fault among
constraint-said (constraint.Definite n) = (refl, λ p. refl)
constraint-said constraint.MinContent = (refl, λ p. refl)
constraint-said constraint.MaxContent = (refl, λ p. refl)

pub constraint-kept : Kept constraint_tags constraint_tag constraint_number constraint_of
constraint-kept = tagged-cases _ constraint_tags ((λ n. (refl, refl)), tt) ((refl, refl), ((refl, refl), tt))

pub amount-said : Said given_tags amount_tag amount_number amount_of
unfolding tagged_fault among
amount-said None = (refl, λ p. refl)
amount-said (Some n) = (refl, λ p. refl)

pub amount-kept : Kept given_tags amount_tag amount_number amount_of
amount-kept = tagged-cases _ given_tags ((λ n. (refl, refl)), tt) ((refl, refl), tt)

pub minimum-said : Said minimum_tags sheet_minimum_tag sheet_minimum_number sheet_minimum_of
unfolding tagged_fault among
minimum-said (minimum.Fixed n) = (refl, λ p. refl)
minimum-said minimum.Auto = (refl, λ p. refl)
minimum-said minimum.MinContent = (refl, λ p. refl)
minimum-said minimum.MaxContent = (refl, λ p. refl)

pub minimum-kept : Kept minimum_tags sheet_minimum_tag sheet_minimum_number sheet_minimum_of
minimum-kept = tagged-cases _ minimum_tags ((λ n. (refl, refl)), tt) ((refl, refl), ((refl, refl), ((refl, refl), tt)))

pub maximum-said : Said maximum_tags sheet_maximum_tag sheet_maximum_number sheet_maximum_of
unfolding tagged_fault among
maximum-said (maximum.Fixed n) = (refl, λ p. refl)
maximum-said maximum.Auto = (refl, λ p. refl)
maximum-said maximum.MinContent = (refl, λ p. refl)
maximum-said maximum.MaxContent = (refl, λ p. refl)
maximum-said (maximum.FitContent n) = (refl, λ p. refl)
maximum-said (maximum.Fr n) = (refl, λ p. refl)

pub maximum-kept : Kept maximum_tags sheet_maximum_tag sheet_maximum_number sheet_maximum_of
maximum-kept = tagged-cases _ maximum_tags ((λ n. (refl, refl)), ((λ n. (refl, refl)), ((λ n. (refl, refl)), tt))) ((refl, refl), ((refl, refl), ((refl, refl), tt)))

-- ---- the stretch byte

pub bit-said : (b : Bool) → (eqb (bit b) 1 ≡ b) × (among stretch_bytes (bit b) ≡ true)
unfolding among
bit-said true = (refl, refl)
bit-said false = (refl, refl)

pub bit_kept : (n : ℕ) → among stretch_bytes n ≡ true → bit (eqb n 1) ≡ n
bit_kept = each_in (λ n. bit (eqb n 1) ≡ n) stretch_bytes (refl, (refl, tt))

-- ---- the axis byte

pub axis-said : (a : Axis) → (axis_of (axis_byte a) ≡ a) × (among axis_bytes (axis_byte a) ≡ true)
unfolding among
axis-said Inline = (refl, refl)
axis-said Block = (refl, refl)

pub axis-kept : (n : ℕ) → among axis_bytes n ≡ true → axis_byte (axis_of n) ≡ n
axis-kept = each_in (λ n. axis_byte (axis_of n) ≡ n) axis_bytes (refl, (refl, tt))
