-- Edges that are made: edge by edge as the code writes them, what refuses bases, and that the check passes what is made. Assumes nothing.
use mathlib.Core.Path.{◌≡◌, sym, ap, ap₂, ◌∙◌}
use mathlib.Core.Bool.{Bool, true, false, ◌&&◌, and-eq-true_iff}
use mathlib.Core.List.{List, [], ◌∷◌, ◌++◌, map}
use Prim.Native.Nat.{ℕ, suc, ◌+◌, ◌≤◌, ◌<◌}
use native.Mathlib.Numerals.{add-one}
use native.Mathlib.Omega.{arith}
use lib.Dec.{leb}
use lib.ListN.{length, get_or, take, drop, set, length-map, drop_of_length-le, get_or-map}
use lib.Seq.{drop-cons, set_split}
use borrow.Author.Tests.{leb-true, le-leb, lt-leb}
use Rattle.laws.specs.Faults.{fine-both, fine-test}
use Rattle.laws.specs.Lists.{up_from}
use Rattle.laws.specs.Sums.{sum}
use Rattle.laws.specs.Put.{onto}
use Rattle.laws.specs.Walk.{next, store_step}
use Rattle.kinds.specs.Kinds.{Row}
use Rattle.edges.specs.Rule.{Fault, fine, fault, first, edge_of, edges_of, most_base, most_edge, limit_fault, limits_fault, bases_in, make_call, edges_outcome, written, refused}

-- ---- the edges one after another: the first is told, and each track's base leads to the next

unfoldable pub edges_from : ℕ → List ℕ → List ℕ
edges_from edge [] = edge ∷ []
edges_from edge (base ∷ bases) = edge ∷ edges_from (edge + base) bases

from-sums : (f : ℕ → ℕ) (k edge : ℕ) (bases : List ℕ) → ((t : ℕ) → f (k + t) ≡ edge + sum (take t bases)) → map f (up_from k (suc (length bases))) ≡ edges_from edge bases
unfolding up_from sum edges_from
from-sums f k edge [] h = let e : k + 0 ≡ k = omega arith in let g : edge + 0 ≡ edge = omega arith in ap (◌∷ []) (ap f (sym e) ∙ h 0 ∙ g)
from-sums f k edge (base ∷ bases) h =
    let e : k + 0 ≡ k = omega arith in
    let g : edge + 0 ≡ edge = omega arith in
    ap₂ ◌∷◌ (ap f (sym e) ∙ h 0 ∙ g)
    (from-sums f (k + 1) (edge + base) bases
    (λ (t : ℕ). let a : (k + 1) + t ≡ k + suc t = omega arith in let b : edge + (base + sum (take t bases)) ≡ (edge + base) + sum (take t bases) = omega arith in ap f a ∙ h (suc t) ∙ b))

pub edges-are-from : (bases : List ℕ) → edges_of bases ≡ edges_from 0 bases
unfolding edges_of
edges-are-from bases = rw add-one (from-sums (edge_of bases) 0 0 bases (λ (t : ℕ). let e : 0 + t ≡ t = omega arith in ap (edge_of bases) e ∙ (omega arith)))

-- ---- the limits, track by track

pub within-limits : (t base edge : ℕ) → limit_fault t base edge ≡ fine → (base ≤ most_base) × (edge ≤ most_edge)
within-limits t base edge f =
    let both = (and-eq-true_iff (leb base most_base) (leb edge most_edge)).0 (fine-test (leb base most_base && leb edge most_edge) 7 t f) in
    (leb-true base most_base both.0, leb-true edge most_edge both.1)

module _ (bs : List ℕ) (t edge : ℕ) where
  -- what the tracks from t on are refused for
  abbrev pub limits_at : Fault
  limits_at = limits_fault t edge (drop t bs)

module _ (bs : List ℕ) (t edge : ℕ) where
  pub limits-next : t < length bs → limits_at bs t edge ≡ first (limit_fault t (get_or bs t 0) (edge + get_or bs t 0)) (limits_at bs (t + 1) (edge + get_or bs t 0))
  unfolding limits_fault
  limits-next h = rw (next bs t 0 h)

  pub limits-end : length bs ≤ t → limits_at bs t edge ≡ fine
  unfolding limits_fault
  limits-end h = rw (drop_of_length-le bs h)

  module _ (h : t < length bs) (w : Bool) (e : w ≡ leb (get_or bs t 0) most_base && leb (edge + get_or bs t 0) most_edge) where
    pub limits-here : w ≡ false → limits_at bs t edge ≡ fault 7 t
    limits-here n = limits-next h ∙ rw (← e, n)

    pub limits-behind : w ≡ true → limits_at bs t edge ≡ limits_at bs (t + 1) (edge + get_or bs t 0)
    limits-behind n = limits-next h ∙ rw (← e, n)

  -- a track that is not refused
  module _ (h : t < length bs) (f : limits_at bs t edge ≡ fine) where
    limits-fine : (limit_fault t (get_or bs t 0) (edge + get_or bs t 0) ≡ fine) × (limits_at bs (t + 1) (edge + get_or bs t 0) ≡ fine)
    limits-fine = fine-both (limit_fault t (get_or bs t 0) (edge + get_or bs t 0)) (limits_at bs (t + 1) (edge + get_or bs t 0)) (sym (limits-next h) ∙ f)

    pub limit-edge : edge + get_or bs t 0 ≤ most_edge
    limit-edge = (within-limits t (get_or bs t 0) (edge + get_or bs t 0) limits-fine.0).1

    pub limits-rest : limits_at bs (t + 1) (edge + get_or bs t 0) ≡ fine
    limits-rest = limits-fine.1

-- a base in the place of its track
pub base-in : (places : List Row) (t : ℕ) → get_or (bases_in places) t 0 ≡ get_or (get_or places t []) 0 0
base-in places t = get_or-map (λ (place : Row). get_or place 0 0) places t []

-- ---- writing the edges

module _ (bs l w : List ℕ) (t edge : ℕ) (h : t < length l) (p : take t l ++ onto (edges_from edge (drop t bs)) (drop t l) ≡ w) where
  pub put-turn : t < length bs → take (t + 1) (set l t edge) ++ onto (edges_from (edge + get_or bs t 0) (drop (t + 1) bs)) (drop (t + 1) (set l t edge)) ≡ w
  unfolding edges_from
  put-turn k = store_step l t (onto (edges_from edge (drop t bs))) (onto (edges_from (edge + get_or bs t 0) (drop (t + 1) bs))) edge 0 w h one p
    where
      one : onto (edges_from edge (drop t bs)) (get_or l t 0 ∷ drop (t + 1) l) ≡ edge ∷ onto (edges_from (edge + get_or bs t 0) (drop (t + 1) bs)) (drop (t + 1) l)
      one = rw (next bs t 0 k)

  pub put_last : length bs ≤ t → set l t edge ≡ w
  unfolding edges_from
  put_last k =
      let e : drop t bs ≡ [] = drop_of_length-le bs k in
      set_split l t edge h ∙ ap (take t l ++◌) (ap (λ (ys : List ℕ). edge ∷ drop 1 ys) (sym (drop-cons l t 0 h))) ∙ (rw e at p)

-- ---- the same of places, as the code reads them

-- the base of track t
abbrev pub base_at : List Row → ℕ → ℕ
base_at places t = get_or (get_or places t []) 0 0

module _ (places : List Row) (t edge : ℕ) (h : t < length places) where
  in-bases : t < length (bases_in places)
  in-bases = simp length-map h

  module _ (w : Bool) (e : w ≡ leb (base_at places t) most_base && leb (edge + base_at places t) most_edge) where
    pub past-here : w ≡ false → limits_at (bases_in places) t edge ≡ fault 7 t
    past-here = limits-here (bases_in places) t edge in-bases w (rw (base-in places t) e)

    pub past-behind : w ≡ true → limits_at (bases_in places) (t + 1) (edge + base_at places t) ≡ limits_at (bases_in places) t edge
    past-behind n = rw (← base-in places t) (sym (limits-behind (bases_in places) t edge in-bases w (rw (base-in places t) e) n))

  module _ (f : limits_at (bases_in places) t edge ≡ fine) where
    pub room-here : edge + base_at places t ≤ most_edge
    room-here = rw (← base-in places t) (limit-edge (bases_in places) t edge in-bases f)

    pub room-behind : limits_at (bases_in places) (t + 1) (edge + base_at places t) ≡ fine
    room-behind = rw (← base-in places t) (limits-rest (bases_in places) t edge in-bases f)

  pub put-next : (l w : List ℕ) → t < length l → take t l ++ onto (edges_from edge (drop t (bases_in places))) (drop t l) ≡ w
      → take (t + 1) (set l t edge) ++ onto (edges_from (edge + base_at places t) (drop (t + 1) (bases_in places))) (drop (t + 1) (set l t edge)) ≡ w
  put-next l w k p = rw (← base-in places t) (put-turn (bases_in places) l w t edge k p in-bases)

-- where no track is left
module _ (places : List Row) (t edge : ℕ) (h : length places ≤ t) where
  past-none : length (bases_in places) ≤ t
  past-none = simp length-map h

  pub past-end : limits_at (bases_in places) t edge ≡ fine
  past-end = limits-end (bases_in places) t edge past-none

  pub put-end : (l lent : List ℕ) → t < length l → take t l ++ onto (edges_from edge (drop t (bases_in places))) (drop t l) ≡ onto (edges_from 0 (bases_in places)) lent
      → set l t edge ≡ onto (edges_of (bases_in places)) lent
  put-end l lent k p = rw (edges-are-from (bases_in places)) (put_last (bases_in places) l _ t edge k p past-none)

-- ---- making, case by case as the code goes

module _ (places : List Row) (lent : List ℕ) where
  pub make-short : length lent ≤ length places → edges_outcome (refused 6 0) lent ≡ make_call places lent
  unfolding make_call
  make-short h = let n : length lent < length (bases_in places) + 1 = simp length-map (omega arith) in rw (lt-leb _ _ n)

  module _ (h : length places < length lent) where
    enough-lent : leb (length (bases_in places) + 1) (length lent) ≡ true
    enough-lent = le-leb _ _ (simp length-map (omega arith))

    pub make-past : (number place : ℕ) → fault number place ≡ limits_fault 0 0 (bases_in places) → edges_outcome (refused number place) lent ≡ make_call places lent
    unfolding make_call
    make-past number place e = rw (enough-lent, ← e)

    pub make-done : fine ≡ limits_fault 0 0 (bases_in places) → (new : List ℕ) → new ≡ onto (edges_of (bases_in places)) lent → edges_outcome written new ≡ make_call places lent
    unfolding make_call
    make-done f new e = rw (enough-lent, ← f, e)
