-- A list of known length, element by element: a row of n numbers is the list of its n elements. Assumes nothing.
use Rattle.std.specs.Prelude.{◌≡◌, refl, ℕ, zero, suc, List, [], ◌∷◌, length, get_or}
use Rattle.std.proofs.Common.{ap, arith}

-- the first n values of a function
abbrev pub firsts : {A : Type 0} → ℕ → (ℕ → A) → List A
firsts zero f = []
firsts (suc n) f = f 0 ∷ firsts n (λ i. f (suc i))

-- the list, written out: `elements 0 4 l e : l ≡ get_or l 0 0 ∷ get_or l 1 0 ∷ get_or l 2 0 ∷ get_or l 3 0 ∷ []`
pub elements : {A : Type 0} (d : A) (n : ℕ) (l : List A) → length l ≡ n → l ≡ firsts n (λ i. get_or l i d)
elements d zero [] e = refl
elements d (suc n) [] e = absurd (omega arith)
elements d zero (x ∷ l) e = absurd (omega arith)
elements d (suc n) (x ∷ l) e = ap (x ∷◌) (elements d n l (omega arith))
