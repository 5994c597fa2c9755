-- Each track gets its even share, or its cap, at least. Over caps: proofs/Demand says it of the call's lists. Assumes nothing.
use mathlib.Core.Path.{◌≡◌}
use mathlib.Core.Logic.{⊎_elim}
use mathlib.Core.List.{List, [], ◌∷◌}
use mathlib.Core.Bool.{Bool}
use Prim.Native.Nat.{ℕ, zero, suc, ◌+◌, ◌-◌, ◌*◌, ◌/◌, ◌≤◌, ◌<◌, min, zero-le}
use native.Mathlib.Nat.{le_trans, le_of_suc-le-suc, not-suc-le-zero, lt_of_lt_of_le, div-lt_iff_lt-mul, mul-add, suc-mul, mul-one, min-le_left}
use native.Mathlib.Omega.{arith}
use lib.ListN.{length, get_or}
use Rattle.laws.specs.Tests.{lt-or-ge}
use Rattle.laws.specs.Marks.{bit, number}
use Rattle.laws.specs.Sums.{sum}
use Rattle.rounds.specs.Rests.{open_rests, take_each, open_marks, take_marked, take_odd, fill_rests, lost}
use Rattle.rounds.proofs.Odd.{odd_number}
use Rattle.rounds.proofs.OpenMarks.{Among, none, one, odd-among}
use Rattle.rounds.proofs.RestRounds.{done-cases}
use Rattle.rounds.proofs.Level.{Level, fill-level, fill_done, fill-length, fill-sum}
use Rattle.fill.proofs.Fair.{gain-at}
use Rattle.fill.proofs.RoundCount.{each-open-le}

-- ---- the gains at a level are no more than the level for each open track, and the odd dots

level-le : (c l : ℕ) → min c l ≤ l * min 1 c
level-le zero l = omega arith
level-le (suc c) l = let e : min 1 (suc c) ≡ 1 = omega arith in rw (e, mul-one) (omega arith)

tally : (c l t lm lo n r : ℕ) → t ≤ c - l → min c l ≤ lm → r ≤ lo + n → c - (c - l - t) + r ≤ lm + lo + (t + n)
tally c l t lm lo n r p a b = omega arith

sum-marked-le : (l : ℕ) (cs : List ℕ) {ms : List Bool} → Among ms (take_each l cs) → sum (lost cs (take_marked ms (take_each l cs))) ≤ l * open_rests cs + number ms
unfolding sum lost take_marked take_each open_rests number
sum-marked-le l [] none = zero-le
sum-marked-le l (c ∷ cs) (one {m = m} p a) = rw mul-add (tally c l (bit m) (l * min 1 c) (l * open_rests cs) _ _ p (level-le c l) (sum-marked-le l cs a))

sum-gain-le : (l d : ℕ) (cs : List ℕ) → sum (lost cs (take_odd d (take_each l cs))) ≤ l * open_rests cs + d
sum-gain-le l d cs = omega (arith, sum-marked-le l cs (odd-among d (take_each l cs)), odd_number d (open_marks (take_each l cs)))

-- ---- where no track is open each got its cap

pub full_at : (cs xs : List ℕ) (i : ℕ) → open_rests xs ≡ 0 → i < length xs → i < length cs → get_or (lost cs xs) i 0 ≡ get_or cs i 0
unfolding open_rests lost
full_at cs [] i o p q = absurd (not-suc-le-zero p)
full_at [] (x ∷ xs) i o p q = absurd (not-suc-le-zero q)
full_at (c ∷ cs) (x ∷ xs) zero o p q = omega arith
full_at (c ∷ cs) (x ∷ xs) (suc i) o p q = full_at cs xs i (omega arith) (le_of_suc-le-suc p) (le_of_suc-le-suc q)

pub open-some : (cs : List ℕ) (i : ℕ) → 0 < get_or cs i 0 → 0 < open_rests cs
unfolding open_rests
open-some [] i h = absurd (not-suc-le-zero h)
open-some (c ∷ cs) zero h = omega arith
open-some (c ∷ cs) (suc i) h = omega (arith, open-some cs i h)

-- ---- the share

-- at level l, with fewer than o odd dots more, the even share is no more than l
share-le-level : (dots l d o : ℕ) → 0 < o → d < o → dots ≤ l * o + d → dots / o ≤ l
share-le-level dots l d o p q h = le_of_suc-le-suc ((div-lt_iff_lt-mul p).1 (rw suc-mul (omega arith)))

at-level-least : (x l b m : ℕ) → m ≤ l → min x m ≤ min x l + b
at-level-least x l b m h = omega arith

pub fill-share : (dots : ℕ) (cs : List ℕ) (i : ℕ) → i < length cs → min (get_or cs i 0) (dots / open_rests cs) ≤ get_or (lost cs (fill_rests dots cs).rests) i 0
fill-share dots cs i p = ⊎_elim spent full (done-cases (fill_rests dots cs) (fill_done dots cs))
  where
    v : Level cs (fill_rests dots cs)
    v = fill-level dots cs

    full : open_rests (fill_rests dots cs).rests ≡ 0 → min (get_or cs i 0) (dots / open_rests cs) ≤ get_or (lost cs (fill_rests dots cs).rests) i 0
    full o =
        let l = fill-length dots cs in
        rw (full_at cs (fill_rests dots cs).rests i o (omega arith) p) (min-le_left (get_or cs i 0) (dots / open_rests cs))

    spent : (fill_rests dots cs).left ≡ 0 → min (get_or cs i 0) (dots / open_rests cs) ≤ get_or (lost cs (fill_rests dots cs).rests) i 0
    spent e = ⊎_elim some (λ (h : get_or cs i 0 ≤ 0). le_trans (min-le_left _ _) (le_trans h zero-le)) (lt-or-ge 0 (get_or cs i 0))
      where
        some : 0 < get_or cs i 0 → min (get_or cs i 0) (dots / open_rests cs) ≤ get_or (lost cs (fill_rests dots cs).rests) i 0
        some q =
            let o = open-some cs i q in
            let l = v.level in
            let d = v.odd in
            let less : d < open_rests cs = ⊎_elim (λ (z : v.odd ≡ 0). omega arith) (λ z. lt_of_lt_of_le z.1 (each-open-le v.level cs)) v.few in
            let got : sum (lost cs (fill_rests dots cs).rests) ≤ l * open_rests cs + d = rw v.is (sum-gain-le l d cs) in
            let all : dots ≤ l * open_rests cs + d = omega (arith, fill-sum dots cs) in
            rw (v.is, gain-at l d cs i p) (at-level-least _ l _ _ (share-le-level dots l d (open_rests cs) o less all))
