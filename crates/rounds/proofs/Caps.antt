-- How many caps there are, and what is lost of them. Assumes nothing.
use Rattle.std.proofs.Common.{◌≡◌, ℕ, zero, suc, ◌≤◌, List, [], ◌∷◌, length, get_or, refl, ap, zero-le, arith}
use Rattle.rounds.specs.Rule.{Track}
use Rattle.rounds.specs.Rests.{caps, lost}

pub caps-length-tracks : (dots : ℕ) (ts : List Track) → length (caps dots ts) ≡ length ts
unfolding caps
caps-length-tracks dots [] = refl
caps-length-tracks dots (t ∷ ts) = ap suc (caps-length-tracks dots ts)

pub lost-le : (cs xs : List ℕ) (i : ℕ) → get_or (lost cs xs) i 0 ≤ get_or cs i 0
unfolding lost
lost-le [] xs i = zero-le
lost-le (c ∷ cs) [] i = zero-le
lost-le (c ∷ cs) (x ∷ xs) zero = omega arith
lost-le (c ∷ cs) (x ∷ xs) (suc i) = lost-le cs xs i

pub lost-length : (cs xs : List ℕ) → length xs ≡ length cs → length (lost cs xs) ≡ length cs
unfolding lost
lost-length [] xs e = refl
lost-length (c ∷ cs) [] e = absurd (omega arith)
lost-length (c ∷ cs) (x ∷ xs) e = ap suc (lost-length cs xs (omega arith))
