-- A tag or a mark that a row without fault has is a byte: each listed one is. Assumes nothing.
use mathlib.Core.Path.{◌≡◌, refl, subst}
use mathlib.Core.Logic.{⊎_elim}
use mathlib.Core.Bool.{Bool, true, false, ◌&&◌}
use Prim.Native.Nat.{ℕ, ◌+◌, ◌<◌}
use native.Mathlib.Omega.{arith}
use mathlib.Core.List.{List, [], ◌∷◌}
use lib.Dec.{ltb, eqb}
use lib.ListN.{length, get_or}
use borrow.Author.Tests.{ltb-true, eqb-true}
use Rattle.laws.specs.Tests.{true-or-false, never}
use Rattle.laws.specs.Rows.{firsts, elements}
use Rattle.laws.specs.Lists.{among}
use Rattle.laws.specs.Faults.{fine-both, fine-test}
use Rattle.records.specs.Rule.{Part, tagged, mark, pair, Row, Tags, fine, fault, unless, tagged_fault, row_fault}

-- ---- the lists name bytes, which a test can tell

unfoldable pub are_small : List ℕ → Bool
are_small [] = true
are_small (m ∷ ms) = ltb m 256 && are_small ms

unfoldable pub parts_small : List Part → Bool
parts_small [] = true
parts_small (tagged tags ∷ parts) = are_small tags.carrying && (are_small tags.bare && parts_small parts)
parts_small (mark listed ∷ parts) = are_small listed && parts_small parts
parts_small (pair ∷ parts) = parts_small parts

both_true : (a b : Bool) → (a && b) ≡ true → (a ≡ true) × (b ≡ true)
both_true true b e = (refl, e)
both_true false b e = never e refl

small-of-in : (n : ℕ) (ms : List ℕ) → are_small ms ≡ true → among ms n ≡ true → n < 256
unfolding are_small among
small-of-in n [] s e = never e refl
small-of-in n (m ∷ ms) s e =
    let b = both_true (ltb m 256) (are_small ms) s in
    ⊎_elim
    (λ (t : eqb n m ≡ true). omega (arith, eqb-true n m t, ltb-true m 256 b.0))
    (λ (t : eqb n m ≡ false). small-of-in n ms b.1 (rw t at e))
    (true-or-false (eqb n m))

small-of-tagged : (tags : Tags) (tag n p : ℕ) → are_small tags.carrying ≡ true → are_small tags.bare ≡ true → tagged_fault tags tag n p ≡ fine → tag < 256
unfolding tagged_fault
small-of-tagged tags tag n p s t e =
    ⊎_elim
    (λ (i : among tags.carrying tag ≡ true). small-of-in tag tags.carrying s i)
    (λ (i : among tags.carrying tag ≡ false).
    ⊎_elim
    (λ (j : among tags.bare tag ≡ true). small-of-in tag tags.bare t j)
    (λ (j : among tags.bare tag ≡ false). let z : fault 4 p ≡ fine = rw (i, j) at e in let y : ◌≡◌ {A = ℕ} 0 1 = cc in absurd (omega arith))
    (true-or-false (among tags.bare tag)))
    (true-or-false (among tags.carrying tag))

-- ---- a row

-- its tags and marks are bytes
abbrev pub SmallTags : List Part → Row → Type 0
SmallTags (tagged tags ∷ parts) (tag ∷ n ∷ row) = (tag < 256) × SmallTags parts row
SmallTags (tagged tags ∷ parts) (tag ∷ []) = Unit
SmallTags (mark listed ∷ parts) (n ∷ row) = (n < 256) × SmallTags parts row
SmallTags (pair ∷ parts) (n ∷ row) = SmallTags parts row
SmallTags (part ∷ parts) [] = Unit
SmallTags [] row = Unit

pub small-tags : (parts : List Part) (row : Row) (p : ℕ) → parts_small parts ≡ true → row_fault parts row p ≡ fine → SmallTags parts row
unfolding parts_small row_fault
small-tags [] row p s e = tt
small-tags (tagged tags ∷ parts) [] p s e = tt
small-tags (tagged tags ∷ parts) (tag ∷ []) p s e = tt
small-tags (tagged tags ∷ parts) (tag ∷ n ∷ row) p s e =
    let a = both_true (are_small tags.carrying) _ s in
    let b = both_true (are_small tags.bare) _ a.1 in
    let f = fine-both (tagged_fault tags tag n p) _ e in
    (small-of-tagged tags tag n p a.0 b.0 f.0, small-tags parts row (p + 5) b.1 f.1)
small-tags (mark listed ∷ parts) [] p s e = tt
small-tags (mark listed ∷ parts) (n ∷ row) p s e =
    let a = both_true (are_small listed) _ s in
    let f = fine-both (unless (among listed n) (fault 4 p)) _ e in
    (small-of-in n listed a.0 (fine-test (among listed n) 4 p f.0), small-tags parts row (p + 1) a.1 f.1)
small-tags (pair ∷ parts) [] p s e = tt
small-tags (pair ∷ parts) (n ∷ row) p s e = small-tags parts row (p + 4) s e

-- the same of a row of known length, written out
pub small-elements : (parts : List Part) (n : ℕ) (row : Row) (p : ℕ) → parts_small parts ≡ true → length row ≡ n → row_fault parts row p ≡ fine → SmallTags parts (firsts n (λ i. get_or row i 0))
small-elements parts n row p s l e = subst (SmallTags parts) (elements 0 n row l) (small-tags parts row p s e)
