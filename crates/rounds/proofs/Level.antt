-- The level: at the end of a fill each rest has lost the same number, or all that it had, and the takers of the odd dots one
-- more. With it the sum. Assumes nothing.
use Rattle.std.proofs.Common.{◌≡◌, ℕ, zero, suc, ◌+◌, ◌-◌, ◌*◌, ◌/◌, ◌<◌, ◌≤◌, min, Bool, true, false, cond, eqb, ◌⊎◌, List, [], ◌∷◌, length, sym, refl, ap, ◌∙◌, subst, inl, inr, ⊎_elim, le_trans, le_refl, mul-zero, mul-one, mul-add, arith, eqb-true}
use native.Mathlib.Nat.{min-le_right, sub-zero}
use Rattle.laws.specs.Sums.{sum}
use Rattle.laws.specs.Quotients.{lt-of-quotient-zero}
use Rattle.laws.specs.Runs.{runs-keep, runs_done}
use Rattle.rounds.specs.Rests.{open_rests, lowered, least_rest, take_each, take_marked, take_odd, State, state_of, share_of, rest_round, rest_more, fill_rests, lost}
use Rattle.rounds.proofs.OpenMarks.{Among, none, one, odd-among, odd-sum, odd-zero, marked-length}
use Rattle.rounds.proofs.RestRounds.{least-le, share-le, round-cases, round-less, more_left, more-open}

-- ---- the share is no more than any open rest

-- each rest that is open is k at least
abbrev pub Below : ℕ → List ℕ → Type 0
Below k [] = Unit
Below k (x ∷ xs) = ((x ≡ 0) ⊎ (k ≤ x)) × Below k xs

lowered-cases : (m x : ℕ) → (x ≡ 0) ⊎ (lowered m x ≤ x)
lowered-cases m x = go (eqb x 0) refl
  where
    go : (b : Bool) → eqb x 0 ≡ b → (x ≡ 0) ⊎ (cond b m (min m x) ≤ x)
    go true e = inl (eqb-true x 0 e)
    go false e = inr (omega arith)

below-le : (j k : ℕ) (xs : List ℕ) → j ≤ k → Below k xs → Below j xs
below-le j k [] l b = tt
below-le j k (x ∷ xs) l b = (⊎_elim inl (λ h. inr (le_trans l h)) b.0, below-le j k xs l b.1)

least-below : (m : ℕ) (xs : List ℕ) → Below (least_rest m xs) xs
unfolding least_rest
least-below m [] = tt
least-below m (x ∷ xs) = (⊎_elim inl (λ h. inr (le_trans (least-le (lowered m x) xs) h)) (lowered-cases m x), least-below (lowered m x) xs)

pub share-below : (d : ℕ) (xs : List ℕ) → Below (share_of d xs) xs
share-below d xs = below-le _ _ xs (min-le_right (d / open_rests xs) (least_rest d xs)) (least-below d xs)

-- ---- what each pass leaves

each-zero : (cs : List ℕ) → take_each 0 cs ≡ cs
unfolding take_each
each-zero [] = refl
each-zero (c ∷ cs) = rw (sub-zero, each-zero cs)

each-each : (l k : ℕ) (cs : List ℕ) → take_each k (take_each l cs) ≡ take_each (l + k) cs
unfolding take_each
each-each l k [] = refl
each-each l k (c ∷ cs) = let h : c - l - k ≡ c - (l + k) = omega arith in rw (h, each-each l k cs)

pub each-length : (k : ℕ) (xs : List ℕ) → length (take_each k xs) ≡ length xs
unfolding take_each
each-length k [] = refl
each-length k (x ∷ xs) = ap suc (each-length k xs)

-- ---- the level

pub record Level (cs : List ℕ) (s : State) : Type 0 where
  pub level : ℕ
  pub odd : ℕ
  pub is : s.rests ≡ take_odd odd (take_each level cs)
  pub few : (odd ≡ 0) ⊎ ((s.left ≡ 0) × (odd < open_rests (take_each level cs)))

level-at : (cs : List ℕ) (s : State) (l : ℕ) → s.rests ≡ take_each l cs → Level cs s
level-at cs s l e = record { level = l; odd = 0; is = e ∙ sym (odd-zero (take_each l cs)); few = inl refl }

at_level : (cs : List ℕ) (s : State) → 0 < s.left → (v : Level cs s) → s.rests ≡ take_each v.level cs
at_level cs s p v =
    ⊎_elim
    (λ (e : v.odd ≡ 0). v.is ∙ ap (λ (d : ℕ). take_odd d (take_each v.level cs)) e ∙ odd-zero (take_each v.level cs))
    (λ e. let z = e.0 in absurd (omega arith))
    v.few

level-round : (cs : List ℕ) (s : State) → rest_more s ≡ true → Level cs s → Level cs (rest_round s)
level-round cs s e v =
    let r = at_level cs s (more_left s e) v in
    round-cases (Level cs) s
    (λ q.
    let h : s.left < open_rests s.rests = lt-of-quotient-zero s.left _ (more-open s e) q in
    record { level = v.level; odd = s.left; is = ap (take_odd s.left) r; few = inr (refl, rw r at h) })
    (λ k q h. level-at cs _ (v.level + k) (ap (take_each k) r ∙ each-each v.level k cs))

pub fill-level : (dots : ℕ) (cs : List ℕ) → Level cs (fill_rests dots cs)
unfolding fill_rests
fill-level dots cs = runs-keep rest_more rest_round (Level cs) (level-round cs) dots (state_of cs dots 0) (level-at cs _ 0 (sym (each-zero cs)))

pub fill_done : (dots : ℕ) (cs : List ℕ) → rest_more (fill_rests dots cs) ≡ false
unfolding fill_rests
fill_done dots cs = runs_done rest_more rest_round (λ s. s.left) round-less dots (state_of cs dots 0) (le_refl dots)

pub fill-length : (dots : ℕ) (cs : List ℕ) → length (fill_rests dots cs).rests ≡ length cs
fill-length dots cs =
    let v = fill-level dots cs in
    ap length v.is ∙ marked-length (odd-among v.odd (take_each v.level cs)) ∙ each-length v.level cs

-- ---- the sum

take-k : (k x : ℕ) → (x ≡ 0) ⊎ (k ≤ x) → x - k + k * min 1 x ≡ x
take-k k zero h = rw mul-zero (omega arith)
take-k k (suc x) (inl z) = absurd (omega arith)
take-k k (suc x) (inr l) = let e : min 1 (suc x) ≡ 1 = omega arith in rw (e, mul-one) (omega arith)

each-sum : (k : ℕ) (xs : List ℕ) → Below k xs → sum (take_each k xs) + k * open_rests xs ≡ sum xs
unfolding sum take_each open_rests
each-sum k [] h = rw mul-zero
each-sum k (x ∷ xs) h = rw mul-add (omega (arith, take-k k x h.0, each-sum k xs h.1))

-- what the rests lose, the dots lose
sum-round : (dots : ℕ) (cs : List ℕ) (s : State) → rest_more s ≡ true → sum s.rests + dots ≡ sum cs + s.left → sum (rest_round s).rests + dots ≡ sum cs + (rest_round s).left
sum-round dots cs s e p =
    round-cases (λ t. sum t.rests + dots ≡ sum cs + t.left) s
    (λ q.
    let h : s.left < open_rests s.rests = lt-of-quotient-zero s.left _ (more-open s e) q in
    let a = odd-sum s.left s.rests (omega arith) in
    omega arith)
    (λ k q h.
    let a = each-sum k s.rests (subst (λ (m : ℕ). Below m s.rests) (sym q) (share-below s.left s.rests)) in
    let b : k * open_rests s.rests ≤ s.left = rw q (share-le s.left s.rests) in
    omega arith)

fill-rest-sum : (dots : ℕ) (cs : List ℕ) → sum (fill_rests dots cs).rests + dots ≡ sum cs + (fill_rests dots cs).left
unfolding fill_rests
fill-rest-sum dots cs = runs-keep rest_more rest_round (λ t. sum t.rests + dots ≡ sum cs + t.left) (sum-round dots cs) dots (state_of cs dots 0) refl

-- a gain and what is left of the rest make the cap
lost-sum : (l : ℕ) (cs : List ℕ) {ms : List Bool} → Among ms (take_each l cs) → sum (lost cs (take_marked ms (take_each l cs))) + sum (take_marked ms (take_each l cs)) ≡ sum cs
unfolding sum take_marked take_each lost
lost-sum l [] none = refl
lost-sum l (c ∷ cs) (one h a) = omega (arith, lost-sum l cs a)

pub fill-sum : (dots : ℕ) (cs : List ℕ) → sum (lost cs (fill_rests dots cs).rests) + (fill_rests dots cs).left ≡ dots
fill-sum dots cs =
    let v = fill-level dots cs in
    let a : sum (lost cs (fill_rests dots cs).rests) + sum (fill_rests dots cs).rests ≡ sum cs = rw v.is (lost-sum v.level cs (odd-among v.odd (take_each v.level cs))) in
    let b = fill-rest-sum dots cs in
    omega arith
