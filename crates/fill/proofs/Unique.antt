-- Gains and a leftover that keep demand 3's four conditions are the only ones that do. It speaks of no fill, so that a
-- check of somebody else's gains can be proved from it. Assumes nothing.
use mathlib.Core.Path.{◌≡◌, refl, sym, ap, ap₂, ◌∙◌}
use mathlib.Core.Logic.{◌⊎◌, inl, inr, ⊎_elim}
use mathlib.Core.List.{List, [], ◌∷◌}
use mathlib.Core.Bool.{Bool, true, false}
use Prim.Native.Nat.{ℕ, zero, suc, ◌≤◌, ◌<◌}
use native.Mathlib.Nat.{le_of_lt}
use native.Mathlib.Omega.{arith}
use lib.ListN.{length, get_or}
use Rattle.laws.specs.Tests.{lt-or-ge}
use Rattle.laws.specs.Sums.{sum}
use Rattle.fill.specs.Rule.{Room, up_to, no_limit}
use Rattle.fill.specs.Demand.{Allowed, Full, Short, FairFill, room_at}

-- ---- two lists of one length: the same, or the one with the larger sum is larger somewhere

Larger : List ℕ → List ℕ → Type 0
Larger gs hs = (j : ℕ) × (j < length gs) × (get_or hs j 0 < get_or gs j 0)

same-or-larger : (gs hs : List ℕ) → length gs ≡ length hs → sum hs ≤ sum gs → (gs ≡ hs) ⊎ Larger gs hs
unfolding sum Larger
same-or-larger [] [] e h = inl refl
same-or-larger [] (y ∷ ys) e h = absurd (omega arith)
same-or-larger (x ∷ xs) [] e h = absurd (omega arith)
same-or-larger (x ∷ xs) (y ∷ ys) e h = go (lt-or-ge y x) (λ (l : x ≤ y). same-or-larger xs ys (omega arith) (omega arith))
  where
    go : (y < x) ⊎ (x ≤ y) → (x ≤ y → (xs ≡ ys) ⊎ Larger xs ys) → ((x ∷ xs) ≡ (y ∷ ys)) ⊎ Larger (x ∷ xs) (y ∷ ys)
    go (inl l) r = inr (zero, omega arith, l)
    go (inr l) r =
        ⊎_elim
        (λ (q : xs ≡ ys). let s : sum xs ≡ sum ys = ap sum q in let z : x ≡ y = omega arith in inl (ap₂ ◌∷◌ z q))
        (λ (q : Larger xs ys). inr (suc q.0, omega (arith, q.1), q.2))
        (r l)

-- ---- a track where another claim gives more

-- it is affected, and short of its limit
short-of : (a : Bool) (r : Room) (g h : ℕ) → g < h → Allowed a r h → (a ≡ true) × Short g r
short-of false r g h l w = absurd (omega arith)
short-of true (up_to r) g h l w = (refl, omega arith)
short-of true no_limit g h l w = (refl, tt)

-- and so it is not full
not_full : (r : Room) (g : ℕ) → Short g r → Full g r → ⊥
not_full (up_to r) g s f = omega arith
not_full no_limit g s f = f

-- ---- two claims

module _ (dots : ℕ) (as' ls : List Bool) (rs : List ℕ) where
  claims-length : (gs hs : List ℕ) (m n : ℕ) → FairFill dots as' ls rs gs m → FairFill dots as' ls rs hs n → length gs ≡ length hs
  claims-length gs hs m n g h = sym g.lists.affected ∙ h.lists.affected

  -- where the first claim gives a track more, the second gives it less than its room, so it leaves no dots
  more-sum : (gs hs : List ℕ) (m n : ℕ) → FairFill dots as' ls rs gs m → FairFill dots as' ls rs hs n → Larger gs hs → sum gs ≤ sum hs
  unfolding Larger
  more-sum gs hs m n g h w =
      ⊎_elim
      (λ (p : 0 < n).
      let s = short-of (get_or as' w.0 false) (room_at ls rs w.0) (get_or hs w.0 0) (get_or gs w.0 0) w.2 (g.room w.0 w.1) in
      absurd (not_full (room_at ls rs w.0) (get_or hs w.0 0) s.1 (h.spent p w.0 (rw (claims-length gs hs m n g h) at w.1) s.0)))
      (λ (p : n ≤ 0). omega (arith, g.total, h.total))
      (lt-or-ge 0 n)

  -- two tracks that each claim favours one of would each stand before the other
  clash : (gs hs : List ℕ) (m n : ℕ) → FairFill dots as' ls rs gs m → FairFill dots as' ls rs hs n → Larger gs hs → Larger hs gs → ⊥
  unfolding Larger
  clash gs hs m n g h w v =
      let e = claims-length gs hs m n g h in
      let j = w.0 in
      let i = v.0 in
      let jh : j < length hs = rw e at w.1 in
      let ig : i < length gs = rw (← e) at v.1 in
      let si = short-of (get_or as' i false) (room_at ls rs i) (get_or gs i 0) (get_or hs i 0) v.2 (h.room i v.1) in
      let sj = short-of (get_or as' j false) (room_at ls rs j) (get_or hs j 0) (get_or gs j 0) w.2 (g.room j w.1) in
      let a = g.fairness i j ig w.1 si.0 si.1 in
      let b = h.fairness j i jh v.1 sj.0 sj.1 in
      let p : j < i = a.behind (omega (arith, a.near, b.near, w.2, v.2)) in
      let q : i < j = b.behind (omega (arith, a.near, b.near, w.2, v.2)) in
      omega arith

  same-of-le : (gs hs : List ℕ) (m n : ℕ) → FairFill dots as' ls rs gs m → FairFill dots as' ls rs hs n → sum hs ≤ sum gs → gs ≡ hs
  same-of-le gs hs m n g h l =
      let e = claims-length gs hs m n g h in
      ⊎_elim
      (λ e. e)
      (λ (w : Larger gs hs). ⊎_elim (λ e. sym e) (λ (v : Larger hs gs). absurd (clash gs hs m n g h w v)) (same-or-larger hs gs (sym e) (more-sum gs hs m n g h w)))
      (same-or-larger gs hs e l)

  -- one list of gains, and one leftover
  pub unique : (gs hs : List ℕ) (m n : ℕ) → FairFill dots as' ls rs gs m → FairFill dots as' ls rs hs n → (gs ≡ hs) × (m ≡ n)
  unique gs hs m n g h =
      let e : gs ≡ hs = ⊎_elim (λ l. sym (same-of-le hs gs n m h g (le_of_lt l))) (λ l. same-of-le gs hs m n g h l) (lt-or-ge (sum gs) (sum hs)) in
      (e, omega (arith, ap sum e, g.total, h.total))
