-- The number of rounds: each closes a track, but for one that leaves fewer dots than open tracks, and the last.
-- Over caps: proofs/Demand says it of the call's lists. Assumes nothing.
use mathlib.Core.Path.{◌≡◌, refl, ◌∙◌}
use mathlib.Core.Logic.{◌⊎◌, inl, inr, ⊎_elim}
use mathlib.Core.List.{List, [], ◌∷◌}
use mathlib.Core.Bool.{Bool, true, false, cond}
use Prim.Native.Nat.{ℕ, ◌+◌, ◌-◌, ◌*◌, ◌/◌, ◌≤◌, ◌<◌, min}
use native.Mathlib.Nat.{le_refl, eq-or-lt_of_le, min-le_left, min-eq_left, min-eq_right, le_of_lt, lt-div-mul-add, div-le_self}
use native.Mathlib.Omega.{arith}
use lib.Dec.{eqb}
use borrow.Author.Tests.{eqb-false}
use Rattle.laws.specs.Tests.{lt-or-ge}
use Rattle.laws.specs.Quotients.{le-of-quotient-pos}
use Rattle.laws.specs.Runs.{runs-keep}
use Rattle.rounds.specs.Rests.{open_rests, lowered, least_rest, take_each, State, state_of, share_of, rest_round, rest_more, fill_rests}
use Rattle.rounds.proofs.RestRounds.{round-cases, more_left, more-open}

pub each-open-le : (k : ℕ) (xs : List ℕ) → open_rests (take_each k xs) ≤ open_rests xs
unfolding take_each open_rests
each-open-le k [] = le_refl 0
each-open-le k (x ∷ xs) = omega (arith, each-open-le k xs)

-- ---- a share that is the least room closes a track

still-fewer : (x l a b : ℕ) → a < b → min 1 (x - l) + a < min 1 x + b
still-fewer x l a b h = omega arith

closed-here : (x l a b : ℕ) → l ≡ x → 0 < x → a ≤ b → min 1 (x - l) + a < min 1 x + b
closed-here x l a b e p h = omega arith

lowered_is : (m x : ℕ) → (lowered m x ≡ m) ⊎ ((lowered m x ≡ x) × (0 < x))
lowered_is m x = go (eqb x 0) refl (⊎_elim (λ (e : min m x ≡ m). inl e) (λ (h : min m x < m). inr (omega arith)) (eq-or-lt_of_le (min-le_left m x)))
  where
    go : (b : Bool) → eqb x 0 ≡ b → (min m x ≡ m) ⊎ (min m x ≡ x) → (cond b m (min m x) ≡ m) ⊎ ((cond b m (min m x) ≡ x) × (0 < x))
    go true e w = inl refl
    go false e (inl a) = inl a
    go false e (inr a) = let h : (x ≡ 0 → ⊥) = eqb-false x 0 e in inr (a, omega arith)

least-closes : (m : ℕ) (xs : List ℕ) → (least_rest m xs ≡ m) ⊎ (open_rests (take_each (least_rest m xs) xs) < open_rests xs)
unfolding least_rest take_each open_rests
least-closes m [] = inl refl
least-closes m (x ∷ xs) = go (least-closes (lowered m x) xs) (lowered_is m x)
  where
    go : (least_rest (lowered m x) xs ≡ lowered m x) ⊎ (open_rests (take_each (least_rest (lowered m x) xs) xs) < open_rests xs) → (lowered m x ≡ m) ⊎ ((lowered m x ≡ x) × (0 < x))
        → (least_rest (lowered m x) xs ≡ m) ⊎ (min 1 (x - least_rest (lowered m x) xs) + open_rests (take_each (least_rest (lowered m x) xs) xs) < min 1 x + open_rests xs)
    go (inr h) w = inr (still-fewer x (least_rest (lowered m x) xs) _ _ h)
    go (inl e) (inl a) = inl (e ∙ a)
    go (inl e) (inr a) = inr (closed-here x (least_rest (lowered m x) xs) _ _ (e ∙ a.0) a.1 (each-open-le (least_rest (lowered m x) xs) xs))

share-closes : (d : ℕ) (xs : List ℕ) → (share_of d xs ≡ d / open_rests xs) ⊎ (open_rests (take_each (share_of d xs) xs) < open_rests xs)
share-closes d xs = go (lt-or-ge (least_rest d xs) (d / open_rests xs)) (least-closes d xs)
  where
    go : (least_rest d xs < d / open_rests xs) ⊎ (d / open_rests xs ≤ least_rest d xs) → (least_rest d xs ≡ d) ⊎ (open_rests (take_each (least_rest d xs) xs) < open_rests xs)
        → (share_of d xs ≡ d / open_rests xs) ⊎ (open_rests (take_each (share_of d xs) xs) < open_rests xs)
    go (inr l) w = inl (min-eq_left l)
    go (inl l) (inl e) = let q = div-le_self d (open_rests xs) in absurd (omega arith)
    go (inl l) (inr w) = inr (rw (min-eq_right (le_of_lt l)) w)

-- ---- the bound

-- k tracks were open at the start
Bound : ℕ → State → Type 0
Bound k s =
    (s.rounds + open_rests s.rests ≤ k)
    ⊎ (((s.rounds + open_rests s.rests ≤ k + 1) × (s.left < open_rests s.rests)) ⊎ ((s.left ≡ 0) × (s.rounds ≤ k + 1)))

bound-odd : (k : ℕ) (s : State) → 0 < s.left → 0 < open_rests s.rests → Bound k s → s.rounds + 1 ≤ k + 1
unfolding Bound
bound-odd k s p q (inl a) = omega arith
bound-odd k s p q (inr (inl a)) = omega arith
bound-odd k s p q (inr (inr a)) = omega arith

bound-each : (k m : ℕ) (s : State) → open_rests s.rests ≤ s.left → 0 < open_rests s.rests → m ≡ share_of s.left s.rests → Bound k s
    → Bound k (state_of (take_each m s.rests) (s.left - m * open_rests s.rests) (s.rounds + 1))
unfolding Bound
bound-each k m s h q e (inl a) = go (eq-or-lt_of_le (each-open-le m s.rests)) (share-closes s.left s.rests)
  where
    go : (open_rests (take_each m s.rests) ≡ open_rests s.rests) ⊎ (open_rests (take_each m s.rests) < open_rests s.rests)
        → (share_of s.left s.rests ≡ s.left / open_rests s.rests) ⊎ (open_rests (take_each (share_of s.left s.rests) s.rests) < open_rests s.rests)
        → Bound k (state_of (take_each m s.rests) (s.left - m * open_rests s.rests) (s.rounds + 1))
    go (inr l) w = inl (omega arith)
    go (inl z) (inl w) =
        let d : s.left < m * open_rests s.rests + open_rests s.rests = rw (e, w) (lt-div-mul-add {a = s.left} q) in
        inr (inl (omega arith, rw z (omega arith)))
    go (inl z) (inr w) = let v : open_rests (take_each m s.rests) < open_rests s.rests = rw e w in absurd (omega arith)
bound-each k m s h q e (inr (inl a)) = absurd (omega arith)
bound-each k m s h q e (inr (inr a)) = absurd (omega arith)

bound-round : (k : ℕ) (s : State) → rest_more s ≡ true → Bound k s → Bound k (rest_round s)
unfolding Bound
bound-round k s e b =
    round-cases (Bound k) s
    (λ q. inr (inr (refl, bound-odd k s (more_left s e) (more-open s e) b)))
    (λ m q h. bound-each k m s (le-of-quotient-pos s.left (open_rests s.rests) (more-open s e) h) (more-open s e) q b)

pub fill-rounds : (dots : ℕ) (cs : List ℕ) → (fill_rests dots cs).rounds ≤ open_rests cs + 1
unfolding fill_rests Bound
fill-rounds dots cs = go _ (runs-keep rest_more rest_round (Bound (open_rests cs)) (bound-round (open_rests cs)) dots (state_of cs dots 0) (inl (omega arith)))
  where
    go : (s : State) → Bound (open_rests cs) s → s.rounds ≤ open_rests cs + 1
    go s (inl a) = omega arith
    go s (inr (inl a)) = omega arith
    go s (inr (inr a)) = a.1
