-- Demand 3, proved of the published rule, over the call's own lists: each clause by its own name, then that nothing but the
-- fill keeps them. `fits` says that the lists are of one length, as they are in every call that is not refused.
-- Assumes nothing else.
use mathlib.Core.Path.{◌≡◌, refl, sym, ap, ◌∙◌, subst}
use mathlib.Core.Logic.{⊎_elim}
use mathlib.Core.List.{List}
use mathlib.Core.Bool.{Bool, true, false, cond}
use Prim.Native.Nat.{ℕ, ◌+◌, ◌/◌, ◌≤◌, ◌<◌}
use native.Mathlib.Nat.{div-le_self}
use native.Mathlib.Omega.{arith}
use lib.Dec.{eqb}
use lib.ListN.{length, get_or}
use Rattle.laws.specs.Tests.{lt-or-ge}
use Rattle.laws.specs.Marks.{number}
use Rattle.laws.specs.Sums.{get_or-le-sum}
use Rattle.laws.specs.Quotients.{quotient-antitone}
use Rattle.laws.specs.Runs.{Passed, runs-passed}
use Rattle.fill.specs.Rule.{Track, track_of, tracks_of, gains_of, opens, within, Fill, fill_of, round, more, fill, fill_lists}
use Rattle.rounds.specs.Rests.{cap_of, caps, open_rests, fill_rests, lost}
use Rattle.fill.specs.Demand.{OneLength, Allowed, Full, Short, OneBehind, SumHolds, FairFill, room_at}
use Rattle.rounds.proofs.RestRounds.{done-cases}
use Rattle.rounds.proofs.Level.{fill_done, fill-length, fill-sum}
use Rattle.fill.proofs.Fair.{fill-fair}
use Rattle.fill.proofs.RoundCount.{fill-rounds}
use Rattle.fill.proofs.Share.{full_at, open-some, fill-share}
use Rattle.rounds.proofs.Tied.{fill-agrees}
use Rattle.rounds.proofs.Caps.{lost-le, lost-length}
use Rattle.fill.proofs.Caps.{caps-length, cap-at, open-caps-le, allowed-of-le-cap, full-of-eq-cap, lt-cap-of-short, within-le-of-share, le-room-of-allowed}
use Rattle.fill.proofs.Unique.{unique}

round-rounds : (f : Fill) → (round f).rounds ≡ f.rounds + 1
unfolding round
round-rounds f = go (eqb (f.left / number (opens f.tracks)) 0) _ _ _
  where
    go : (b : Bool) (odd each : List Track) (left : ℕ) → (cond b (fill_of odd 0 (f.rounds + 1)) (fill_of each left (f.rounds + 1))).rounds ≡ f.rounds + 1
    go true odd each left = refl
    go false odd each left = refl

module _ (dots : ℕ) (affected limited : List Bool) (rooms : List ℕ) where
  -- the caps of the call's tracks
  abbrev cs : List ℕ
  cs = caps dots (tracks_of affected limited rooms)

  -- what the rule gives for the call's lists
  abbrev pub gains : List ℕ
  gains = gains_of (fill_lists dots affected limited rooms).tracks

  abbrev pub leftover : ℕ
  leftover = (fill_lists dots affected limited rooms).left

  abbrev pub rounds : ℕ
  rounds = (fill_lists dots affected limited rooms).rounds

  -- ---- the clauses that ask nothing of the lists

  -- gains plus leftover are the dots
  pub sum-gains-add-leftover : SumHolds dots gains leftover
  sum-gains-add-leftover = let a = fill-agrees dots affected limited rooms in rw (← a.gains, ← a.left) (fill-sum dots cs)

  -- so many passes lead from the start to the end, with more to do before each of them and nothing after the last
  pub rounds-are-passes : Passed more round (fill_of (tracks_of affected limited rooms) dots 0) (fill_lists dots affected limited rooms) rounds
      × (more (fill_lists dots affected limited rooms) ≡ false)
  unfolding fill
  rounds-are-passes =
      let p = runs-passed more round (λ f. f.rounds) round-rounds dots (fill_of (tracks_of affected limited rooms) dots 0) in
      let e : p.0 ≡ rounds = omega (arith, p.1) in
      (rw e at p.2, (fill-agrees dots affected limited rooms).more ∙ fill_done dots cs)

  -- with k affected tracks there are at most k plus one rounds
  pub rounds-le : rounds ≤ number affected + 1
  rounds-le =
      let a = fill-agrees dots affected limited rooms in
      let l = fill-rounds dots cs in
      let o = open-caps-le dots affected limited rooms in
      rw (← a.rounds) (omega arith)

  -- ---- the clauses on each track

  module _ (fits : OneLength affected limited rooms rooms) where
    pub length-gains : length gains ≡ length rooms
    length-gains =
        sym (ap length (fill-agrees dots affected limited rooms).gains) ∙ lost-length cs _ (fill-length dots cs) ∙ caps-length dots affected limited rooms fits

    -- what a track gained is what its cap lost
    gain-is : (i : ℕ) → get_or gains i 0 ≡ get_or (lost cs (fill_rests dots cs).rests) i 0
    gain-is i = ap (λ (gs : List ℕ). get_or gs i 0) (sym (fill-agrees dots affected limited rooms).gains)

    below-caps : (i : ℕ) → i < length rooms → i < length cs
    below-caps i h = omega (arith, caps-length dots affected limited rooms fits)

    -- the cap of an affected track
    cap-affected : (i : ℕ) → i < length rooms → get_or affected i false ≡ true → get_or cs i 0 ≡ cap_of dots (track_of true (get_or limited i false) (get_or rooms i 0))
    cap-affected i h e = cap-at dots affected limited rooms i fits h ∙ ap (λ (b : Bool). cap_of dots (track_of b (get_or limited i false) (get_or rooms i 0))) e

    gain-allowed : (i : ℕ) → i < length rooms → Allowed (get_or affected i false) (room_at limited rooms i) (get_or gains i 0)
    gain-allowed i h =
        allowed-of-le-cap dots _ (get_or affected i false) (get_or limited i false) (get_or rooms i 0)
        (rw (gain-is i, ← cap-at dots affected limited rooms i fits h) (lost-le cs _ i))

    -- no gain exceeds its room
    pub gain-le-room : (i : ℕ) → i < length rooms → get_or limited i false ≡ true → get_or gains i 0 ≤ get_or rooms i 0
    gain-le-room i h e = le-room-of-allowed (get_or affected i false) (get_or limited i false) _ _ e (gain-allowed i h)

    -- an unaffected track gains nothing
    pub gain-eq-zero-of-unaffected : (i : ℕ) → i < length rooms → get_or affected i false ≡ false → get_or gains i 0 ≡ 0
    gain-eq-zero-of-unaffected i h e = subst (λ (a : Bool). Allowed a (room_at limited rooms i) (get_or gains i 0)) e (gain-allowed i h)

    -- dots are left only when every affected track is full
    pub full-of-leftover : 0 < leftover → (i : ℕ) → i < length rooms → get_or affected i false ≡ true → Full (get_or gains i 0) (room_at limited rooms i)
    full-of-leftover p i h e =
        let p' : 0 < (fill_rests dots cs).left = rw (fill-agrees dots affected limited rooms).left p in
        let o : open_rests (fill_rests dots cs).rests ≡ 0 = ⊎_elim (λ (z : (fill_rests dots cs).left ≡ 0). absurd (omega arith)) (λ o. o) (done-cases (fill_rests dots cs) (fill_done dots cs)) in
        let b = below-caps i h in
        let f = full_at cs (fill_rests dots cs).rests i o (omega (arith, fill-length dots cs)) b in
        full-of-eq-cap dots _ (get_or limited i false) (get_or rooms i 0) (omega (arith, get_or-le-sum gains i, sum-gains-add-leftover)) (gain-is i ∙ f ∙ cap-affected i h e)

    -- with k affected tracks each gets at least the smaller of its room and dots divided by k, rounded down; without limit that quotient
    pub share-le-gain : (i : ℕ) → i < length rooms → get_or affected i false ≡ true → within (dots / number affected) (room_at limited rooms i) ≤ get_or gains i 0
    share-le-gain i h e =
        let c = cap-affected i h e in
        within-le-of-share dots _ (dots / open_rests cs) (dots / number affected) (get_or limited i false) (get_or rooms i 0) (div-le_self dots (number affected))
        (λ (p : 0 < cap_of dots (track_of true (get_or limited i false) (get_or rooms i 0))). quotient-antitone dots (open_rests cs) (number affected) (open-some cs i (rw c p)) (open-caps-le dots affected limited rooms))
        (rw (gain-is i, ← c) (fill-share dots cs i (below-caps i h)))

    -- an affected track short of its limit is at most one dot behind any other, and then only behind an earlier one
    pub one-behind-of-short : (i j : ℕ) → i < length rooms → j < length rooms → get_or affected i false ≡ true → Short (get_or gains i 0) (room_at limited rooms i) → OneBehind gains i j
    one-behind-of-short i j hi hj e s = ⊎_elim below all (lt-or-ge (get_or gains i 0) dots)
      where
        below : get_or gains i 0 < dots → OneBehind gains i j
        below l =
            let c = cap-affected i hi e in
            let t = lt-cap-of-short dots (get_or gains i 0) (get_or limited i false) (get_or rooms i 0) l s in
            let f = fill-fair dots cs i j (below-caps i hi) (below-caps j hj) (omega (arith, t, c, gain-is i)) in
            record { near = rw (gain-is i, gain-is j) f.near; behind = rw (gain-is i, gain-is j) f.behind }

        -- it has got all the dots, so nobody has more
        all : dots ≤ get_or gains i 0 → OneBehind gains i j
        all l =
            let m : get_or gains j 0 ≤ get_or gains i 0 = omega (arith, get_or-le-sum gains j, sum-gains-add-leftover) in
            record { near = omega arith; behind = λ q. absurd (omega arith) }

    -- the four conditions together
    pub fill-is-fair : FairFill dots affected limited rooms gains leftover
    fill-is-fair =
        let n = length-gains in
        record {
          lists = record { affected = fits.affected ∙ sym n; limited = fits.limited ∙ sym n; rooms = sym n };
          total = sum-gains-add-leftover;
          room = λ i h. gain-allowed i (omega arith);
          spent = λ p i h. full-of-leftover p i (omega arith);
          fairness = λ i j hi hj. one-behind-of-short i j (omega arith) (omega arith);
        }

  -- ---- nothing else keeps them

  -- gains and a leftover that keep the four conditions are the fill's own
  pub eq-fill-of-fair : (gs : List ℕ) (left : ℕ) → FairFill dots affected limited rooms gs left → (gs ≡ gains) × (left ≡ leftover)
  eq-fill-of-fair gs left f =
      let l = f.lists in
      let fits : OneLength affected limited rooms rooms = record { affected = l.affected ∙ sym l.rooms; limited = l.limited ∙ sym l.rooms; rooms = refl } in
      unique dots affected limited rooms gs gains left leftover f (fill-is-fair fits)
