-- What the gathering keeps from turn to turn: the items from i on are chained, each behind its batch's head. Assumes nothing.
use mathlib.Core.Path.{◌≡◌, refl, sym, ap, ◌∙◌}
use mathlib.Core.Logic.{◌≢◌, ⊎_elim}
use mathlib.Core.Bool.{Bool, true, false}
use mathlib.Core.List.{List, [], ◌∷◌, map}
use Prim.Native.Nat.{ℕ, zero, suc, ◌+◌, ◌-◌, ◌≤◌, ◌<◌}
use native.Mathlib.Omega.{arith}
use lib.Dec.{eqb}
use lib.ListN.{length, get_or, set, drop, replicate, length-map, length-set, length-replicate, get_or-replicate}
use lib.Seq.{get_or-set_same, get_or-set_other, drop-length}
use borrow.Author.Tests.{lt-ltb, le-ltb, eqb-true, eqb-false, eq-eqb, ne_eqb}
use Rattle.laws.specs.Tests.{lt-or-ge}
use Rattle.laws.specs.Lists.{All, keep}
use Rattle.laws.specs.Alls.{all-image-at}
use Rattle.laws.specs.Walk.{next}
use Rattle.kinds.specs.Kinds.{Row, track_of, item_of}
use Rattle.kinds.specs.declared.track.Track.{Track}
use Rattle.kinds.specs.declared.item.Item.{Item}
use Rattle.spanned.specs.Sound.{ItemFits}
use Rattle.lines.specs.Chains.{Rising, chain_from, chain, batches}
use Rattle.lines.proofs.Chains.{chain-end, chain_next}
use Rattle.chains.specs.Batches.{batch_of, in_batch, chain_items}
use Rattle.chains.proofs.Numbers.{batch-of-lt}

-- ---- A chain that starts behind j never meets j

chain-from-set : (steps : ℕ) (nexts : List ℕ) (j v first : ℕ) → Rising nexts → j < first → chain_from steps (set nexts j v) first ≡ chain_from steps nexts first
unfolding chain_from
chain-from-set zero nexts j v first r h = refl
chain-from-set (suc steps) nexts j v first r h =
    rw length-set
    (⊎_elim
    (λ (l : first < length nexts).
    let up = r first l in
    let other : first ≢ j = λ (e : first ≡ j). omega arith in
    rw (lt-ltb first (length nexts) l, get_or-set_other nexts j first v 0 other) (ap (first ∷◌) (chain-from-set steps nexts j v (get_or nexts first 0) r (omega arith))))
    (λ (l : length nexts ≤ first). rw (le-ltb first (length nexts) l) refl)
    (lt-or-ge first (length nexts)))

module _ (nexts : List ℕ) (j v : ℕ) (r : Rising nexts) where
  chain-set : (first : ℕ) → j < first → chain (set nexts j v) first ≡ chain nexts first
  chain-set first h = rw length-set (chain-from-set (length nexts) nexts j v first r h)

  rising-set : j < v → Rising (set nexts j v)
  rising-set h i l = go (eqb i j) refl
    where
      short : i < length nexts
      short = rw length-set at l

      go : (b : Bool) → eqb i j ≡ b → i < get_or (set nexts j v) i 0
      go true e =
          let same = eqb-true i j e in
          let inside : j < length nexts = omega (arith, short) in
          rw (same, get_or-set_same nexts j v 0 inside) h
      go false e = rw (get_or-set_other nexts j i v 0 (eqb-false i j e)) (r i short)

-- ---- The turns

pub record Chained (ts : List Track) (rows : List Row) (heads nexts : List ℕ) (i : ℕ) : Type 0 where
  pub within : i ≤ length rows
  pub all-heads : length heads ≡ batches (length ts)
  pub long : length nexts ≡ length rows
  pub rising : Rising nexts
  pub behind : (k : ℕ) → k < length heads → i ≤ get_or heads k 0
  pub batch : (k : ℕ) → k < length heads → chain_items rows nexts (get_or heads k 0) ≡ keep (in_batch ts k) (map item_of (drop i rows))

-- at first every chain is empty
chained-none : (ts : List Track) (rows : List Row) (n m : ℕ) → n ≡ batches (length ts) → m ≡ length rows
    → Chained ts rows (replicate n (length rows)) (replicate m (length rows)) (length rows)
unfolding chain_items keep
chained-none ts rows n m e f = record {
  within = omega arith;
  all-heads = rw length-replicate e;
  long = rw length-replicate f;
  rising = λ (i : ℕ) (l : i < length (replicate m (length rows))). start-rising i (rw length-replicate at l);
  behind = λ (k : ℕ) (l : k < length (replicate n (length rows))).
      let h : k < n = rw length-replicate at l in
      rw (get_or-replicate n k (length rows) 0 h) (omega arith);
  batch = λ (k : ℕ) (l : k < length (replicate n (length rows))).
      let h : k < n = rw length-replicate at l in
      rw (get_or-replicate n k (length rows) 0 h, chain-end (replicate m (length rows)) (length rows) start-end, drop-length) refl;
}
  where
    start-rising : (i : ℕ) → i < m → i < get_or (replicate m (length rows)) i 0
    start-rising i l = rw (get_or-replicate m i (length rows) 0 l) (omega arith)

    start-end : length (replicate m (length rows)) ≤ length rows
    start-end = rw length-replicate (omega arith)

-- so it is with the lists once they are cleared
pub chained-start : (tracks rows : List Row) (heads₀ nexts₀ : List ℕ) {heads nexts : List ℕ} → length heads₀ ≡ batches (length tracks) → length nexts₀ ≡ length rows
    → heads ≡ replicate (length heads₀) (length rows) → nexts ≡ replicate (length nexts₀) (length rows) → Chained (map track_of tracks) rows heads nexts (length rows)
chained-start tracks rows heads₀ nexts₀ all long h n =
    rw (h, n) (chained-none (map track_of tracks) rows (length heads₀) (length nexts₀) (all ∙ ap batches (sym (length-map tracks track_of))) long)

module _ (ts : List Track) (rows : List Row) (heads nexts : List ℕ) (j : ℕ) where
  -- an item joins its batch in front
  chained-turn : (k : ℕ) → k ≡ batch_of ts (item_of (get_or rows j [])) → k < batches (length ts) → Chained ts rows heads nexts (j + 1)
      → Chained ts rows (set heads k j) (set nexts j (get_or heads k 0)) j
  unfolding chain_items keep
  chained-turn k e small c = record {
    within = omega arith;
    all-heads = rw length-set c.all-heads;
    long = rw length-set c.long;
    rising = up;
    behind = λ (q : ℕ) (l : q < length (set heads k j)). behind-set q (rw length-set at l);
    batch = λ (q : ℕ) (l : q < length (set heads k j)). batch-set q (rw length-set at l);
  }
    where
      has-head : k < length heads
      has-head = omega (arith, c.all-heads)

      in_rows : j < length rows
      in_rows = omega (arith, c.within)

      in-nexts : j < length nexts
      in-nexts = omega (arith, c.within, c.long)

      after : j < get_or heads k 0
      after = omega (arith, c.behind k has-head)

      up : Rising (set nexts j (get_or heads k 0))
      up = rising-set nexts j (get_or heads k 0) c.rising after

      in-set : j < length (set nexts j (get_or heads k 0))
      in-set = rw length-set in-nexts

      own : eqb (batch_of ts (item_of (get_or rows j []))) k ≡ true
      own = eq-eqb _ _ (sym e)

      other : (q : ℕ) → q ≢ k → eqb (batch_of ts (item_of (get_or rows j []))) q ≡ false
      other q far = ne_eqb _ _ (λ d. far (sym d ∙ sym e))

      behind-set : (q : ℕ) → q < length heads → j ≤ get_or (set heads k j) q 0
      behind-set q l = go (eqb q k) refl
        where
          go : (b : Bool) → eqb q k ≡ b → j ≤ get_or (set heads k j) q 0
          go true t = rw (eqb-true q k t, get_or-set_same heads k j 0 has-head) (omega arith)
          go false t = rw (get_or-set_other heads k q j 0 (eqb-false q k t)) (omega (arith, c.behind q l))

      rest : (q : ℕ) → q < length heads → j < get_or heads q 0 → chain_items rows (set nexts j (get_or heads k 0)) (get_or heads q 0) ≡ keep (in_batch ts q) (map item_of (drop (j + 1) rows))
      rest q l h = ap (map (λ (i : ℕ). item_of (get_or rows i []))) (chain-set nexts j (get_or heads k 0) c.rising (get_or heads q 0) h) ∙ c.batch q l

      batch-set : (q : ℕ) → q < length heads → chain_items rows (set nexts j (get_or heads k 0)) (get_or (set heads k j) q 0) ≡ keep (in_batch ts q) (map item_of (drop j rows))
      batch-set q l = go (eqb q k) refl
        where
          go : (b : Bool) → eqb q k ≡ b → chain_items rows (set nexts j (get_or heads k 0)) (get_or (set heads k j) q 0) ≡ keep (in_batch ts q) (map item_of (drop j rows))
          go true t =
              rw (eqb-true q k t, get_or-set_same heads k j 0 has-head, chain_next (set nexts j (get_or heads k 0)) j up in-set, get_or-set_same nexts j (get_or heads k 0) 0 in-nexts, next rows j [] in_rows, own)
              (ap (item_of (get_or rows j []) ∷◌) (rest k has-head after))
          go false t =
              let far : q ≢ k = eqb-false q k t in
              rw (get_or-set_other heads k q j 0 far, next rows j [] in_rows, other q far)
              (rest q l (omega (arith, c.behind q l)))

-- the item before i, and k as its batch's number
module _ (n : ℕ) (ts : List Track) (rows : List Row) (heads nexts : List ℕ) (i k : ℕ) (item : Item)
    (few : n ≡ length ts) (fits : All (ItemFits n) (map item_of rows)) (more : 0 < i) (c : Chained ts rows heads nexts i)
    (read : item ≡ item_of (get_or rows (i - 1) [])) (number : k ≡ batch_of ts item) where
  pub number_lt : k < batches (length ts)
  number_lt = rw (number, read) (batch-of-lt ts (item_of (get_or rows (i - 1) [])) n few own)
    where
      own : ItemFits n (item_of (get_or rows (i - 1) []))
      own = all-image-at (ItemFits n) item_of rows (i - 1) [] fits (omega (arith, c.within))

-- the same, of the tracks that rows say
module _ (tracks rows : List Row) {heads nexts : List ℕ} {i k : ℕ} {item : Item}
    (fits : All (ItemFits (length tracks)) (map item_of rows)) (more : 0 < i) (c : Chained (map track_of tracks) rows heads nexts i)
    (read : item ≡ item_of (get_or rows (i - 1) [])) (number : k ≡ batch_of (map track_of tracks) item) where
  row-number-lt : k < batches (length (map track_of tracks))
  row-number-lt = number_lt (length tracks) (map track_of tracks) rows heads nexts i k item (sym (length-map tracks track_of)) fits more c read number

  -- the batch has its head
  pub has-head : k < length heads
  has-head = omega (arith, row-number-lt, c.all-heads)

  pub chained-before : Chained (map track_of tracks) rows (set heads k (i - 1)) (set nexts (i - 1) (get_or heads k 0)) (i - 1)
  chained-before = chained-turn (map track_of tracks) rows heads nexts (i - 1) k (number ∙ ap (batch_of (map track_of tracks)) read) row-number-lt (rw back c)
    where
      back : i - 1 + 1 ≡ i
      back = omega arith
