-- Edges of which one base changes: those behind the track move, and what they become are the edges of the changed bases. Assumes nothing.
use mathlib.Core.Path.{◌≡◌, refl, sym, ap, ap₂, ◌∙◌}
use mathlib.Core.Bool.{Bool, true, false, ◌&&◌}
use mathlib.Core.List.{List, [], ◌∷◌, ◌++◌, map}
use Prim.Native.Nat.{ℕ, zero, suc, ◌+◌, ◌-◌, ◌≤◌, ◌<◌}
use native.Mathlib.Nat.{le_of_suc-le-suc, not-suc-le-zero, le_refl}
use native.Mathlib.Numerals.{add-one}
use native.Mathlib.Omega.{arith}
use lib.Dec.{leb, ltb}
use lib.ListN.{length, get_or, take, drop, set, length-drop}
use Rattle.std.proofs.lemmas.List.{get_or-drop, take_all}
use borrow.Author.Tests.{lt-ltb, le-ltb, leb-true}
use Rattle.laws.specs.Alls.{all-of-at}
use Rattle.laws.specs.Tests.{both_true}
use Rattle.laws.specs.Sums.{sum, get_or-le-sum}
use Rattle.edges.specs.Rule.{fine, fault, fall_fault, edges_fault, edges_of, bases_from, bases_of, changed, most_base, most_edge, update_call, edges_outcome, written, refused}
use Rattle.edges.specs.Steps.{moved, moved_from, CanMove}
use Rattle.edges.proofs.Falls.{fall-fine, behind-fine, starts-at-zero, rises}
use Rattle.edges.proofs.Made.{edges_from, edges-are-from}

-- ---- the bases that edges tell

pub length-bases-from : (edge : ℕ) (behind : List ℕ) → length (bases_from edge behind) ≡ length behind
unfolding bases_from
length-bases-from edge [] = refl
length-bases-from edge (next ∷ behind) = ap suc (length-bases-from next behind)

pub length-bases : (es : List ℕ) → length (bases_of es) ≡ length es - 1
length-bases [] = refl
length-bases (edge ∷ behind) = let e : suc (length behind) - 1 ≡ length behind = omega arith in length-bases-from edge behind ∙ sym e

base-from : (edge : ℕ) (behind : List ℕ) (t : ℕ) → t < length behind → get_or (bases_from edge behind) t 0 ≡ get_or behind t 0 - get_or (edge ∷ behind) t 0
unfolding bases_from
base-from edge [] t h = absurd (not-suc-le-zero h)
base-from edge (next ∷ behind) zero h = refl
base-from edge (next ∷ behind) (suc t) h = base-from next behind t (le_of_suc-le-suc h)

-- they add to the total
sum-from : (place edge : ℕ) (behind : List ℕ) → fall_fault place edge behind ≡ fine → edge + sum (bases_from edge behind) ≡ get_or (edge ∷ behind) (length behind) 0
unfolding bases_from sum
sum-from place edge [] f = omega arith
sum-from place edge (next ∷ behind) f =
    let both = fall-fine place edge next behind f in
    let rest = sum-from (place + 1) next behind both.1 in
    omega (arith, both.0, rest)

-- ---- one number of a list changed

sum-set : (xs : List ℕ) (t x : ℕ) → t < length xs → sum (set xs t x) + get_or xs t 0 ≡ sum xs + x
unfolding sum
sum-set [] t x h = absurd (not-suc-le-zero h)
sum-set (y ∷ ys) zero x h = omega arith
sum-set (y ∷ ys) (suc t) x h = let rest = sum-set ys t x (le_of_suc-le-suc h) in omega (arith, rest)

-- ---- the edges behind the track

module _ (old base : ℕ) where
  moved_all : (place at next : ℕ) (rest : List ℕ) → fall_fault place next rest ≡ fine → at ≡ moved old base next → old ≤ next
      → edges_from at (bases_from next rest) ≡ map (moved old base) (next ∷ rest)
  unfolding edges_from bases_from
  moved_all place at next [] f e l = ap (◌∷ []) e
  moved_all place at next (next' ∷ rest) f e l =
      let both = fall-fine place next next' rest f in
      let h = both.0 in
      ap₂ ◌∷◌ e (moved_all (place + 1) (at + (next' - next)) next' rest both.1 (omega (arith, e, h, l)) (omega (arith, h, l)))

-- how wide track t is
abbrev pub width_of : List ℕ → ℕ → ℕ
width_of es t = get_or es (t + 1) 0 - get_or es t 0

moved-behind : (place edge : ℕ) (behind : List ℕ) (t base : ℕ) → fall_fault place edge behind ≡ fine → t < length behind
    → edges_from edge (set (bases_from edge behind) t base) ≡ take (suc t) (edge ∷ behind) ++ map (moved (get_or behind t 0 - get_or (edge ∷ behind) t 0) base) (drop t behind)
unfolding edges_from bases_from
moved-behind place edge [] t base f h = absurd (not-suc-le-zero h)
moved-behind place edge (next ∷ behind) zero base f h =
    let both = fall-fine place edge next behind f in
    let l = both.0 in
    ap (edge ∷◌) (moved_all (next - edge) base (place + 1) (edge + base) next behind both.1 (omega (arith, l)) (omega arith))
moved-behind place edge (next ∷ behind) (suc t) base f h =
    let both = fall-fine place edge next behind f in
    let l = both.0 in
    let e : edge + (next - edge) ≡ next = omega (arith, l) in
    rw e (ap (edge ∷◌) (moved-behind (place + 1) next behind t base both.1 (le_of_suc-le-suc h)))

module _ (es : List ℕ) (t base : ℕ) (f : edges_fault es ≡ fine) (h : t + 1 < length es) where
  -- what the code writes are the edges of the changed bases
  pub moved-is-afresh : moved_from (t + 1) (width_of es t) base es ≡ edges_of (changed es t base)
  moved-is-afresh = go es f h
    where
      go : (es : List ℕ) → edges_fault es ≡ fine → t + 1 < length es → moved_from (t + 1) (width_of es t) base es ≡ edges_of (changed es t base)
      go [] f h = absurd (not-suc-le-zero h)
      go (edge ∷ behind) f h =
          rw (add-one)
          (sym (moved-behind 1 edge behind t base (behind-fine edge behind f) (omega arith))
          ∙ ap (λ (k : ℕ). edges_from k (set (bases_from edge behind) t base)) (starts-at-zero (edge ∷ behind) f)
          ∙ sym (edges-are-from (set (bases_from edge behind) t base)))

  -- the total moves by as much
  pub changed-total : sum (changed es t base) ≡ (get_or es (length es - 1) 0 - width_of es t) + base
  changed-total = go es f h
    where
      go : (es : List ℕ) → edges_fault es ≡ fine → t + 1 < length es → sum (changed es t base) ≡ (get_or es (length es - 1) 0 - width_of es t) + base
      go [] f h = absurd (not-suc-le-zero h)
      go (edge ∷ behind) f h =
          let l : t < length behind = omega arith in
          let k : t < length (bases_from edge behind) = rw (length-bases-from edge behind) l in
          let n : suc (length behind) - 1 ≡ length behind = omega arith in
          let whole = sum-from 1 edge behind (behind-fine edge behind f) in
          let zero-first = starts-at-zero (edge ∷ behind) f in
          let with-base = sum-set (bases_from edge behind) t base k in
          let own = base-from edge behind t l in
          let few = get_or-le-sum (bases_from edge behind) t in
          rw (n, add-one) (omega (arith, whole, zero-first, with-base, own, few))

  -- the code's steps stay within what 32 bits hold
  pub own-below-next : get_or es t 0 ≤ get_or es (t + 1) 0
  own-below-next = rises es f t (t + 1) (omega arith) h

  pub width-below-last : width_of es t ≤ get_or es (length es - 1) 0
  width-below-last = let up = rises es f (t + 1) (length es - 1) (omega arith) (omega arith) in omega (arith, up)

  pub can-move : (get_or es (length es - 1) 0 - width_of es t) + base ≤ most_edge → CanMove (t + 1) (width_of es t) base es
  can-move l = (
    omega arith,
    all-of-at (λ (edge : ℕ). (width_of es t ≤ edge) × (moved (width_of es t) base edge ≤ most_edge)) (drop (t + 1) es) 0
        (λ (i : ℕ) (k : i < length (drop (t + 1) es)).
        let k' : i < length es - (t + 1) = simp length-drop at k in
        let up = rises es f (t + 1) ((t + 1) + i) (omega arith) (omega arith) in
        let on = rises es f ((t + 1) + i) (length es - 1) (omega arith) (omega arith) in
        rw (get_or-drop (t + 1) es i 0) (omega (arith, up), omega (arith, up, on, l))),
  )

-- ---- the update, case by case as the code goes

module _ (es : List ℕ) (t base : ℕ) where
  pub update-unsorted : (number place : ℕ) → fault number place ≡ edges_fault es → edges_outcome (refused number place) es ≡ update_call es t base
  unfolding update_call
  update-unsorted number place e = rw (← e)

  module _ (f : fine ≡ edges_fault es) where
    pub update-missing : length es - 1 ≤ t → edges_outcome (refused 24 t) es ≡ update_call es t base
    unfolding update_call
    update-missing h = rw (← f, length-bases es, le-ltb t (length es - 1) h)

    module _ (h : t < length es - 1) (w : Bool) (e : w ≡ leb base most_base && leb ((get_or es (length es - 1) 0 - width_of es t) + base) most_edge) where
      has-track : ltb t (length (bases_of es)) ≡ true
      has-track = rw (length-bases es, lt-ltb t (length es - 1) h)

      test-total : w ≡ leb base most_base && leb (sum (changed es t base)) most_edge
      test-total = rw (changed-total es t base (sym f) (omega arith)) e

      pub update-past : w ≡ false → edges_outcome (refused 7 t) es ≡ update_call es t base
      unfolding update_call
      update-past n = rw (← f, has-track, ← test-total, n)

      pub update-moves : w ≡ true → CanMove (t + 1) (width_of es t) base es
      update-moves n = can-move es t base (sym f) (omega arith) (leb-true _ _ (both_true _ _ (sym e ∙ n)).1)

      pub update-done : w ≡ true → (new : List ℕ) → new ≡ moved_from (t + 1) (width_of es t) base es → edges_outcome written new ≡ update_call es t base
      unfolding update_call
      update-done n new m = rw (← f, has-track, ← test-total, n, m, moved-is-afresh es t base (sym f) (omega arith))

-- all edges from a place on
pub whole-behind : (from : ℕ) (es : List ℕ) → take (length es - from) (drop from es) ≡ drop from es
whole-behind from es = take_all (length es - from) (drop from es) (rw (length-drop from es) (le_refl (length es - from)))
