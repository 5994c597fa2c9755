-- What each track has got at the end of a fill, by the level, and that a track with a rest left is at most one dot behind.
-- Over caps: proofs/Demand says it of the call's lists. Assumes nothing.
use mathlib.Core.Path.{◌≡◌, refl, ap, ◌∙◌}
use mathlib.Core.Logic.{⊎_elim}
use mathlib.Core.List.{List, [], ◌∷◌}
use mathlib.Core.Bool.{Bool, true, false}
use Prim.Native.Nat.{ℕ, zero, suc, ◌+◌, ◌-◌, ◌≤◌, ◌<◌, min}
use native.Mathlib.Nat.{le_of_suc-le-suc, not-suc-le-zero}
use native.Mathlib.Omega.{arith}
use lib.Dec.{ltb}
use lib.ListN.{length, get_or}
use borrow.Author.Tests.{lt-ltb}
use Rattle.laws.specs.Tests.{true-or-false}
use Rattle.laws.specs.Marks.{bit, bit-ltb}
use Rattle.fill.specs.Rule.{odd_takers}
use Rattle.rounds.specs.Rests.{take_each, open_marks, take_marked, take_odd, fill_rests, lost}
use Rattle.fill.specs.Demand.{OneBehind}
use Rattle.rounds.proofs.Odd.{odd-open, odd-first}
use Rattle.rounds.proofs.OpenMarks.{Among, one, open_at, odd-among}
use Rattle.rounds.proofs.Level.{fill-level}

each_at : (l : ℕ) (cs : List ℕ) (i : ℕ) → get_or (take_each l cs) i 0 ≡ get_or cs i 0 - l
unfolding take_each
each_at l [] i = omega arith
each_at l (c ∷ cs) zero = refl
each_at l (c ∷ cs) (suc i) = each_at l cs i

back : (c l t : ℕ) → t ≤ c - l → c - (c - l - t) ≡ min c l + t
back c l t h = omega arith

gain-marked : (l : ℕ) (cs : List ℕ) {ms : List Bool} (i : ℕ) → Among ms (take_each l cs) → i < length cs
    → get_or (lost cs (take_marked ms (take_each l cs))) i 0 ≡ min (get_or cs i 0) l + bit (get_or ms i false)
unfolding take_each take_marked lost
gain-marked l [] i a h = absurd (not-suc-le-zero h)
gain-marked l (c ∷ cs) zero (one {m = m} p a) h = back c l (bit m) p
gain-marked l (c ∷ cs) (suc i) (one p a) h = gain-marked l cs i a (le_of_suc-le-suc h)

-- ---- numbers: a and b are what two tracks took of the odd dots

near-arith : (x y l a b : ℕ) → a ≤ min 1 (x - l) → b ≤ min 1 (y - l) → min x l + a < x → min y l + b ≤ min x l + a + 1
near-arith x y l a b p q h = omega arith

room-arith : (x l a : ℕ) → a ≤ min 1 (x - l) → min x l + a < x → 0 < x - l
room-arith x l a p h = omega arith

-- a taker is behind nobody, and nobody is behind one who is none
not_behind : (x y l b : ℕ) → b ≤ min 1 (y - l) → min x l + 1 < x → min x l + 1 < min y l + b → ⊥
not_behind x y l b q h g = omega arith

not-ahead : (x y l a : ℕ) → a ≤ min 1 (x - l) → min x l + a < x → min x l + a < min y l + 0 → ⊥
not-ahead x y l a p h g = omega arith

-- ---- a level l with d odd dots

module _ (l d : ℕ) (cs : List ℕ) where
  abbrev pub taker : ℕ → Bool
  taker i = get_or (odd_takers d (open_marks (take_each l cs))) i false

  -- the level, or the whole cap; and one more for a taker
  abbrev pub gain_at : ℕ → ℕ
  gain_at i = min (get_or cs i 0) l + bit (taker i)

  pub gain-at : (i : ℕ) → i < length cs → get_or (lost cs (take_odd d (take_each l cs))) i 0 ≡ gain_at i
  gain-at i h = gain-marked l cs i (odd-among d (take_each l cs)) h

  open_above : (i : ℕ) → get_or (open_marks (take_each l cs)) i false ≡ ltb 0 (get_or cs i 0 - l)
  open_above i = open_at (take_each l cs) i ∙ ap (ltb 0) (each_at l cs i)

  taker-le : (i : ℕ) → bit (taker i) ≤ min 1 (get_or cs i 0 - l)
  taker-le i = omega (arith, odd-open d (open_marks (take_each l cs)) i, ap bit (open_above i), bit-ltb (get_or cs i 0 - l))

  -- the track i has a rest left
  module _ (i j : ℕ) (h : gain_at i < get_or cs i 0) where
    gain-near : gain_at j ≤ gain_at i + 1
    gain-near = near-arith (get_or cs i 0) (get_or cs j 0) l _ _ (taker-le i) (taker-le j) h

    gain-behind : gain_at i < gain_at j → j < i
    gain-behind g =
        odd-first d (open_marks (take_each l cs)) i j
        (open_above i ∙ lt-ltb 0 _ (room-arith (get_or cs i 0) l _ (taker-le i) h))
        (⊎_elim (λ (e : taker i ≡ true). absurd (came e h g)) (λ e. e) (true-or-false (taker i)))
        (⊎_elim (λ e. e) (λ (e : taker j ≡ false). absurd (none_came e g)) (true-or-false (taker j)))
      where
        came : taker i ≡ true → gain_at i < get_or cs i 0 → gain_at i < gain_at j → ⊥
        came e p q = not_behind (get_or cs i 0) (get_or cs j 0) l _ (taker-le j) (rw e at p) (rw e at q)

        none_came : taker j ≡ false → gain_at i < gain_at j → ⊥
        none_came e q = not-ahead (get_or cs i 0) (get_or cs j 0) l _ (taker-le i) h (rw e at q)

pub fill-fair : (dots : ℕ) (cs : List ℕ) (i j : ℕ) → i < length cs → j < length cs
    → get_or (lost cs (fill_rests dots cs).rests) i 0 < get_or cs i 0 → OneBehind (lost cs (fill_rests dots cs).rests) i j
fill-fair dots cs i j p q h =
    let v = fill-level dots cs in
    let at : (k : ℕ) → k < length cs → get_or (lost cs (fill_rests dots cs).rests) k 0 ≡ gain_at v.level v.odd cs k = λ k r. rw v.is (gain-at v.level v.odd cs k r) in
    let h' = rw (at i p) at h in
    record { near = rw (at i p, at j q) (gain-near v.level v.odd cs i j h'); behind = rw (at i p, at j q) (gain-behind v.level v.odd cs i j h') }
