-- A turn and the end of each loop over a call's tracks. Assumes nothing.
use Rattle.std.proofs.Common.{◌≡◌, refl, ap, ◌∙◌, List, [], ◌∷◌, Bool, true, false, cond, ℕ, suc, ◌+◌, ◌-◌, ◌≤◌, ◌<◌, length, drop, drop_of_length-le, arith}
use Rattle.laws.specs.Walk.{next, store_step, store-end}
use Rattle.fill.specs.Rule as Rule
use Rattle.fill.specs.Rule.{tracks_of, room_over, first_over}
use Rattle.rounds.specs.Rests.{cap_of, caps, lost}
use Rattle.fill.specs.declared.tracks.Tracks.{Tracks}
use Rattle.fill.specs.Tracks.{track_at}

-- the tracks from i on
abbrev pub rest_from : Tracks → ℕ → List Rule.Track
rest_from ts i = tracks_of (drop i ts.affected.now) (drop i ts.limited.now) (drop i ts.rooms.now)

module _ (ts : Tracks) (i : ℕ) (h : i < length ts.rooms.now) where
  next-track : rest_from ts i ≡ track_at ts i ∷ rest_from ts (i + 1)
  unfolding tracks_of
  next-track =
      let a : i < length ts.affected.now = omega (arith, ts.fit.same.affected) in
      let l : i < length ts.limited.now = omega (arith, ts.fit.same.limited) in
      rw (next ts.affected.now i false, next ts.limited.now i false, next ts.rooms.now i 0)

  pub next-cap : (dots v : ℕ) → v ≡ cap_of dots (track_at ts i) → caps dots (rest_from ts i) ≡ v ∷ caps dots (rest_from ts (i + 1))
  unfolding caps
  next-cap dots v e = rw (next-track, e)

  pub next-lost : (dots x v : ℕ) (xs : List ℕ) → v ≡ cap_of dots (track_at ts i) - x
      → lost (caps dots (rest_from ts i)) (x ∷ xs) ≡ v ∷ lost (caps dots (rest_from ts (i + 1))) xs
  unfolding lost
  next-lost dots x v xs e = rw (next-cap dots _ refl, e)

  -- this track's room is over, or the first that is lies further on
  next-over : (b : Bool) → room_over (track_at ts i).room ≡ b → first_over (rest_from ts i) ≡ cond b 0 (suc (first_over (rest_from ts (i + 1))))
  unfolding first_over
  next-over b e = ap first_over next-track ∙ ap (λ (b : Bool). cond b 0 (suc (first_over (rest_from ts (i + 1))))) e

  pub over-here : room_over (track_at ts i).room ≡ true → first_over (rest_from ts i) ≡ 0
  over-here e = next-over true e

  pub over-behind : room_over (track_at ts i).room ≡ false → first_over (rest_from ts i) ≡ suc (first_over (rest_from ts (i + 1)))
  over-behind e = next-over false e

module _ (ts : Tracks) (i : ℕ) (h : length ts.rooms.now ≤ i) where
  no-track : rest_from ts i ≡ []
  unfolding tracks_of
  no-track = let a : length ts.affected.now ≤ i = omega (arith, ts.fit.same.affected) in rw (drop_of_length-le ts.affected.now)

  pub no-cap : (dots : ℕ) → caps dots (rest_from ts i) ≡ []
  unfolding caps
  no-cap dots = ap (caps dots) no-track

-- for the check of `check_rooms`
pub ruleset over = (over-here, over-behind)

-- and of `to_gains`
pub ruleset gains = (store_step, store-end, next-lost, no-cap)
