-- Laws of `odd_takers`: who takes the odd dots. What else is proved of the odd dots follows from these, and from no look at its
-- text. Assumes nothing.
use Rattle.std.proofs.Common.{◌≡◌, ℕ, zero, suc, ◌-◌, ◌<◌, ◌≤◌, min, Bool, true, false, ltb, List, [], ◌∷◌, length, get_or, sym, refl, ap, ◌∙◌, ap₂, le_refl, arith, ltb-false, lt-ltb}
use Rattle.laws.specs.Tests.{never}
use Rattle.laws.specs.Marks.{bit, bit-ltb, number}
use Rattle.rounds.specs.Rule.{odd_takers}
use Rattle.rounds.specs.Rests.{open_marks, take_marked, take_odd}

-- ---- what holds of any rule for the odd dots

pub odd-length : (d : ℕ) (os : List Bool) → length (odd_takers d os) ≡ length os
unfolding odd_takers
odd-length d [] = refl
odd-length d (true ∷ os) = ap suc (odd-length (d - 1) os)
odd-length d (false ∷ os) = ap suc (odd-length d os)

-- a taker is open
pub odd-open : (d : ℕ) (os : List Bool) (i : ℕ) → bit (get_or (odd_takers d os) i false) ≤ bit (get_or os i false)
unfolding odd_takers
odd-open d [] i = le_refl 0
odd-open d (true ∷ os) zero = rw bit-ltb (omega arith)
odd-open d (true ∷ os) (suc i) = odd-open (d - 1) os i
odd-open d (false ∷ os) zero = le_refl 0
odd-open d (false ∷ os) (suc i) = odd-open d os i

-- every odd dot is taken, while there are open tracks
pub odd_number : (d : ℕ) (os : List Bool) → number (odd_takers d os) ≡ min d (number os)
unfolding odd_takers number
odd_number d [] = omega arith
odd_number d (true ∷ os) = rw bit-ltb (omega (arith, odd_number (d - 1) os))
odd_number d (false ∷ os) = omega (arith, odd_number d os)

-- ---- what holds because they are the first

no-taker : (os : List Bool) (j : ℕ) → get_or (odd_takers 0 os) j false ≡ false
unfolding odd_takers
no-taker [] j = refl
no-taker (true ∷ os) zero = refl
no-taker (true ∷ os) (suc j) = no-taker os j
no-taker (false ∷ os) zero = refl
no-taker (false ∷ os) (suc j) = no-taker os j

-- an open track goes without only where every taker stands before it
pub odd-first : (d : ℕ) (os : List Bool) (i j : ℕ) → get_or os i false ≡ true → get_or (odd_takers d os) i false ≡ false → get_or (odd_takers d os) j false ≡ true → j < i
unfolding odd_takers
odd-first d [] i j o n t = never o refl
odd-first d (true ∷ os) zero j o n t =
    let e : d ≡ 0 = omega (arith, ltb-false 0 d n) in
    never t (ap (λ (k : ℕ). get_or (odd_takers k (true ∷ os)) j false) e ∙ no-taker (true ∷ os) j)
odd-first d (true ∷ os) (suc i) zero o n t = omega arith
odd-first d (true ∷ os) (suc i) (suc j) o n t = omega (arith, odd-first (d - 1) os i j o n t)
odd-first d (false ∷ os) zero j o n t = never o refl
odd-first d (false ∷ os) (suc i) zero o n t = never t refl
odd-first d (false ∷ os) (suc i) (suc j) o n t = omega (arith, odd-first d os i j o n t)

-- the walk from the front: this rest takes one if it is open and a dot is left
pub odd_step : (d x : ℕ) (xs : List ℕ) → take_odd d (x ∷ xs) ≡ (x - min 1 (min d x)) ∷ take_odd (d - min 1 (min d x)) xs
unfolding odd_takers open_marks take_marked
odd_step d zero xs =
    let a : 0 - min 1 (min d 0) ≡ 0 = omega arith in
    let e : d - min 1 (min d 0) ≡ d = omega arith in
    ap₂ ◌∷◌ (sym a) (ap (λ (k : ℕ). take_odd k xs) (sym e))
odd_step d (suc x) xs =
    let a : bit (ltb 0 d) ≡ min 1 (min d (suc x)) = omega (arith, bit-ltb d) in
    let e : d - 1 ≡ d - min 1 (min d (suc x)) = omega arith in
    rw (lt-ltb 0 (suc x) (omega arith), odd_takers) (ap₂ (λ (t k : ℕ). (suc x - t) ∷ take_odd k xs) a e)
