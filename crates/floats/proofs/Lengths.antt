-- What the tests of a call that is not refused give each routine. Assumes nothing.
use mathlib.Core.Path.{◌≡◌, sym}
use mathlib.Core.Logic.{◌⊎◌, inl, inr}
use mathlib.Core.Bool.{Bool, true, true≢false}
use mathlib.Core.List.{List, [], ◌∷◌}
use Prim.Native.Nat.{ℕ, zero, suc, ◌≤◌}
use native.Mathlib.Omega.{arith}
use lib.ListN.{length}
use lib.Ieee.{Float}
use Rattle.float_domain.specs.Domain.{lengths_fit}
use Rattle.float_domain.proofs.Outside.{lengths-fit-head, lengths-fit-le}
use Rattle.float_distribution.specs.Distribution.{OneLength}
use Rattle.float_fr_size.specs.Fr.{FrLengths}
use Rattle.float_maximise.specs.Maximise.{MaximiseLengths}
use Rattle.float_stretch.specs.Stretch.{StretchLengths}
use Rattle.floats.specs.Rule.{is_gutter_count}

pub one-length : (fs : List Bool) (ps ss ls : List Float) (n : ℕ) → lengths_fit n (length fs ∷ length ps ∷ length ss ∷ length ls ∷ []) ≡ true → OneLength fs ps ss ls n
one-length fs ps ss ls n fit =
    let first = lengths-fit-head n (length fs) (length ps ∷ length ss ∷ length ls ∷ []) fit in
    let second = lengths-fit-head n (length ps) (length ss ∷ length ls ∷ []) first.1 in
    let third = lengths-fit-head n (length ss) (length ls ∷ []) second.1 in
    let fourth = lengths-fit-head n (length ls) [] third.1 in
    record { affected = first.0; proportions = second.0; sizes = third.0; limits = fourth.0 }

pub fr-lengths : (rows : List (List Float)) (fs : List Bool) (xs : List Float) → lengths_fit (length rows) (length fs ∷ length xs ∷ []) ≡ true → FrLengths rows fs xs
fr-lengths rows fs xs fit =
    let first = lengths-fit-head (length rows) (length fs) (length xs ∷ []) fit in
    record { flexible = first.0; factors = (lengths-fit-head (length rows) (length xs) [] first.1).0 }

pub maximise-lengths : (rows : List (List Float)) (xs : List Float) → lengths_fit (length rows) (length xs ∷ []) ≡ true → MaximiseLengths rows xs
maximise-lengths rows xs fit =
    record { same = (lengths-fit-head (length rows) (length xs) [] fit).0; few = lengths-fit-le (length rows) (length xs ∷ []) fit }

pub stretch-lengths : (rows : List (List Float)) (fs : List Bool) → lengths_fit (length rows) (length fs ∷ []) ≡ true → StretchLengths rows fs
stretch-lengths rows fs fit =
    record { same = (lengths-fit-head (length rows) (length fs) [] fit).0; few = lengths-fit-le (length rows) (length fs ∷ []) fit }

-- a count that 14 leaves is 0, 1 or above 3
counted : (count : ℕ) → is_gutter_count count ≡ true → (count ≤ 1) ⊎ (3 ≤ count)
counted zero h = inl (omega arith)
counted (suc zero) h = inl (omega arith)
counted (suc (suc zero)) h = absurd (true≢false (sym h))
counted (suc (suc (suc n))) h = inr (omega arith)
