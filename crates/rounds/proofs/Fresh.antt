-- The fill of tracks before their first round, for who fills rests of his own: the gains, the leftover and the rounds are the
-- rule's, and gains and leftover add to the dots. Assumes nothing.
use Rattle.std.proofs.Common.{◌≡◌, ℕ, ◌+◌, ◌≤◌, List, [], ◌∷◌, length, get_or, sym, refl, ap, ◌∙◌, ap₂, ⊎_elim, arith}
use Rattle.laws.specs.Sums.{sum, get_or-le-sum}
use Rattle.rounds.specs.Rule.{Track, gains_of, fill}
use Rattle.rounds.specs.Rests.{caps, open_rests, State, state_of, fill_rests, lost}
use Rattle.rounds.proofs.Caps.{caps-length-tracks, lost-le, lost-length}
use Rattle.rounds.proofs.RestRounds.{done-cases}
use Rattle.rounds.proofs.Level.{fill_done, fill-length, fill-sum}
use Rattle.rounds.proofs.Tied.{Fresh, fresh-agrees}

-- where no rest is open, every cap is lost
sum-lost : (cs xs : List ℕ) → length xs ≡ length cs → open_rests xs ≡ 0 → sum (lost cs xs) ≡ sum cs
unfolding open_rests lost sum
sum-lost [] xs e o = refl
sum-lost (c ∷ cs) [] e o = absurd (omega arith)
sum-lost (c ∷ cs) (x ∷ xs) e o = omega (arith, sum-lost cs xs (omega arith) (omega arith))

module _ (dots : ℕ) (ts : List Track) (f : Fresh ts) where
  pub sum-gains-add-left : sum (gains_of (fill dots ts).tracks) + (fill dots ts).left ≡ dots
  sum-gains-add-left =
      let a = fresh-agrees dots ts f in
      ap₂ (λ (gs : List ℕ) (left : ℕ). sum gs + left) (sym a.gains) (sym a.left) ∙ fill-sum dots (caps dots ts)

  -- a gain, and what is left, are no more than the dots together
  pub gain-add-left-le : (i : ℕ) → get_or (gains_of (fill dots ts).tracks) i 0 + (fill dots ts).left ≤ dots
  gain-add-left-le i = let s = sum-gains-add-left in let g = get_or-le-sum (gains_of (fill dots ts).tracks) i in omega arith

  -- a track that could take all the dots leaves none over
  pub none_left : (i : ℕ) → dots ≤ get_or (caps dots ts) i 0 → (fill dots ts).left ≡ 0
  none_left i h =
      let cs = caps dots ts in
      sym (fresh-agrees dots ts f).left
      ∙ ⊎_elim
      (λ (z : (fill_rests dots cs).left ≡ 0). z)
      (λ (o : open_rests (fill_rests dots cs).rests ≡ 0).
      omega (arith, fill-sum dots cs, sum-lost cs (fill_rests dots cs).rests (fill-length dots cs) o, get_or-le-sum cs i))
      (done-cases (fill_rests dots cs) (fill_done dots cs))

  -- no gain exceeds the track's room
  pub gain-le-cap : (i : ℕ) → get_or (gains_of (fill dots ts).tracks) i 0 ≤ get_or (caps dots ts) i 0
  gain-le-cap i = rw (← (fresh-agrees dots ts f).gains) (lost-le (caps dots ts) (fill_rests dots (caps dots ts)).rests i)

  pub length-gains : length (gains_of (fill dots ts).tracks) ≡ length ts
  length-gains =
      let a = fresh-agrees dots ts f in
      ap length (sym a.gains) ∙ lost-length (caps dots ts) (fill_rests dots (caps dots ts)).rests (fill-length dots (caps dots ts)) ∙ caps-length-tracks dots ts

  -- as the rounds leave the rests
  module _ (xs : List ℕ) (left rounds : ℕ) (e : fill_rests dots (caps dots ts) ≡ state_of xs left rounds) where
    pub lost-is-gains : lost (caps dots ts) xs ≡ gains_of (fill dots ts).tracks
    lost-is-gains = ap (λ (s : State). lost (caps dots ts) s.rests) (sym e) ∙ (fresh-agrees dots ts f).gains

    pub left-is-left : left ≡ (fill dots ts).left
    left-is-left = ap (λ (s : State). s.left) (sym e) ∙ (fresh-agrees dots ts f).left

    pub rounds-are-rounds : rounds ≡ (fill dots ts).rounds
    rounds-are-rounds = ap (λ (s : State). s.rounds) (sym e) ∙ (fresh-agrees dots ts f).rounds
