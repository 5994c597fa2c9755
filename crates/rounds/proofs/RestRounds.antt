-- A round on the rests, as the code goes: what it takes, that it hands out a dot at least, and its turn in the loop.
-- Assumes nothing.
use Rattle.std.proofs.Common.{◌≡◌, ℕ, suc, ◌+◌, ◌-◌, ◌*◌, ◌/◌, ◌<◌, ◌≤◌, min, Bool, true, false, cond, ◌&&◌, eqb, ltb, ◌⊎◌, List, [], ◌∷◌, sym, refl, ap, ◌∙◌, inl, inr, le_trans, le_refl, mul-le-mul_right, mul-pos, div-mul-le_self, arith, ltb-false, ltb-true, le-ltb, lt-ltb, eq-eqb, ne_eqb, eqb-true}
use native.Mathlib.Nat.{le-min, min-le_left}
use borrow.Author.Tests.{eqb-false}
use Rattle.laws.specs.Runs.{runs, runs-more}
use Rattle.rounds.specs.Found.{found_in}
use Rattle.rounds.specs.declared.rests.Found.{Found}
use Rattle.rounds.specs.Rests.{open_rests, lowered, least_rest, take_each, take_odd, State, state_of, share_of, rest_round, rest_more}

-- ---- the least room

pub lowered-le : (m x : ℕ) → lowered m x ≤ m
lowered-le m x = go (eqb x 0)
  where
    go : (b : Bool) → cond b m (min m x) ≤ m
    go true = le_refl m
    go false = omega arith

pub least-le : (m : ℕ) (xs : List ℕ) → least_rest m xs ≤ m
unfolding least_rest
least-le m [] = le_refl m
least-le m (x ∷ xs) = le_trans (least-le (lowered m x) xs) (lowered-le m x)

lowered-pos : (m x : ℕ) → 0 < m → 0 < lowered m x
lowered-pos m x p = go (eqb x 0) refl
  where
    go : (b : Bool) → eqb x 0 ≡ b → 0 < cond b m (min m x)
    go true e = p
    go false e = let h : (x ≡ 0 → ⊥) = eqb-false x 0 e in omega arith

least-pos : (m : ℕ) (xs : List ℕ) → 0 < m → 0 < least_rest m xs
unfolding least_rest
least-pos m [] p = p
least-pos m (x ∷ xs) p = least-pos (lowered m x) xs (lowered-pos m x p)

-- ---- the share

-- the shares of a round are no more than the dots
pub share-le : (d : ℕ) (xs : List ℕ) → share_of d xs * open_rests xs ≤ d
share-le d xs = le_trans (mul-le-mul_right (open_rests xs) (min-le_left (d / open_rests xs) (least_rest d xs))) (div-mul-le_self d (open_rests xs))

-- and a dot at least, where the quotient is not 0
share-pos : (d : ℕ) (xs : List ℕ) → 0 < d → 0 < open_rests xs → (d / open_rests xs ≡ 0 → ⊥) → 0 < share_of d xs * open_rests xs
share-pos d xs p o q = mul-pos (le-min (omega arith) (least-pos d xs p)) o

-- ---- a round

-- w is what a survey finds
module _ (xs : List ℕ) (d : ℕ) (w : Found) (found : w ≡ found_in d xs) where
  pub round-odd : (ys : List ℕ) (n : ℕ) → d / w.count ≡ 0 → ys ≡ take_odd d xs → rest_round (state_of xs d n) ≡ state_of ys 0 (n + 1)
  unfolding rest_round
  round-odd ys n h q = rw (eq-eqb (d / open_rests xs) 0 (rw found at h), q)

  pub round-each : (ys : List ℕ) (k n : ℕ) → (d / w.count ≡ 0 → ⊥) → k ≡ min (d / w.count) w.least → ys ≡ take_each k xs
      → rest_round (state_of xs d n) ≡ state_of ys (d - k * w.count) (n + 1)
  unfolding rest_round
  round-each ys k n h p q = rw (ne_eqb (d / open_rests xs) 0 (rw found at h), q, p, found)

-- a round by cases
pub round-cases : (P : State → Type 0) (s : State)
    → (s.left / open_rests s.rests ≡ 0 → P (state_of (take_odd s.left s.rests) 0 (s.rounds + 1)))
    → ((k : ℕ) → k ≡ share_of s.left s.rests → (s.left / open_rests s.rests ≡ 0 → ⊥)
    → P (state_of (take_each k s.rests) (s.left - k * open_rests s.rests) (s.rounds + 1)))
    → P (rest_round s)
unfolding rest_round
round-cases P s a b = go (eqb (s.left / open_rests s.rests) 0) refl
  where
    go : (t : Bool) → eqb (s.left / open_rests s.rests) 0 ≡ t
        → P
        (cond t (state_of (take_odd s.left s.rests) 0 (s.rounds + 1))
        (state_of (take_each (share_of s.left s.rests) s.rests) (s.left - share_of s.left s.rests * open_rests s.rests) (s.rounds + 1)))
    go true e = a (eqb-true _ 0 e)
    go false e = b _ refl (eqb-false _ 0 e)

-- ---- more of them

pub more_left : (s : State) → rest_more s ≡ true → 0 < s.left
unfolding rest_more
more_left s e = go (ltb 0 s.left) refl e
  where
    go : (b : Bool) → ltb 0 s.left ≡ b → b && ltb 0 (open_rests s.rests) ≡ true → 0 < s.left
    go true q h = ltb-true 0 s.left q
    go false q h = ltb-true 0 s.left (q ∙ h)

pub more-open : (s : State) → rest_more s ≡ true → 0 < open_rests s.rests
unfolding rest_more
more-open s e = go (ltb 0 s.left) e
  where
    go : (b : Bool) → b && ltb 0 (open_rests s.rests) ≡ true → 0 < open_rests s.rests
    go true h = ltb-true 0 (open_rests s.rests) h
    go false h = ltb-true 0 (open_rests s.rests) (cc)

more_yes : (xs : List ℕ) (d n : ℕ) → 0 < d → 0 < open_rests xs → rest_more (state_of xs d n) ≡ true
unfolding rest_more
more_yes xs d n p q = rw (lt-ltb 0 d p, lt-ltb 0 (open_rests xs) q)

pub more-no-dots : (xs : List ℕ) (n d : ℕ) → d ≤ 0 → rest_more (state_of xs d n) ≡ false
unfolding rest_more
more-no-dots xs n d h = rw (le-ltb 0 d h)

pub more-none-open : (xs : List ℕ) (d n : ℕ) → open_rests xs ≡ 0 → rest_more (state_of xs d n) ≡ false
unfolding rest_more
more-none-open xs d n h = go (ltb 0 d)
  where
    go : (b : Bool) → b && ltb 0 (open_rests xs) ≡ false
    go true = le-ltb 0 (open_rests xs) (omega arith)
    go false = refl

-- the end: no dots, or no open track
pub done-cases : (s : State) → rest_more s ≡ false → (s.left ≡ 0) ⊎ (open_rests s.rests ≡ 0)
unfolding rest_more
done-cases s e = go (ltb 0 s.left) refl e
  where
    go : (t : Bool) → ltb 0 s.left ≡ t → t && ltb 0 (open_rests s.rests) ≡ false → (s.left ≡ 0) ⊎ (open_rests s.rests ≡ 0)
    go true q h = let l = ltb-false 0 (open_rests s.rests) h in inr (omega arith)
    go false q h = let l = ltb-false 0 s.left q in inl (omega arith)

-- a round hands out a dot at least
pub round-less : (s : State) → rest_more s ≡ true → (rest_round s).left < s.left
round-less s e =
    round-cases (λ t. t.left < s.left) s
    (λ q. more_left s e)
    (λ k h q. let p = share-pos s.left s.rests (more_left s e) (more-open s e) q in let p' : 0 < k * open_rests s.rests = rw h p in omega (arith, more_left s e))

-- ---- a turn of the loop over the rounds

module _ (dots : ℕ) (xs ys : List ℕ) (d d' n : ℕ) (p : 0 < d) (o : 0 < open_rests xs) (r : rest_round (state_of xs d n) ≡ state_of ys d' (n + 1)) where
  pub turn-less : d' < d
  turn-less = rw (ap (λ (s : State). s.left) r) at (round-less (state_of xs d n) (more_yes xs d n p o))

  pub turn : (w : State) → d + n ≤ dots → runs rest_more rest_round (dots - n) (state_of xs d n) ≡ w → runs rest_more rest_round (dots - (n + 1)) (state_of ys d' (n + 1)) ≡ w
  turn w h e =
      let f : dots - n ≡ suc (dots - (n + 1)) = omega arith in
      sym (ap (runs rest_more rest_round (dots - (n + 1))) r)
      ∙ sym (runs-more rest_more rest_round (dots - (n + 1)) (state_of xs d n) (more_yes xs d n p o))
      ∙ ap (λ (k : ℕ). runs rest_more rest_round k (state_of xs d n)) (sym f)
      ∙ e
