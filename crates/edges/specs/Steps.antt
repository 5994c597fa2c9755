-- What the code's own steps do on the way to a call's answer: whether a list falls, what narrowing finds, and how edges move. Assumes nothing.
use Rattle.std.specs.Prelude.{Bool, true, false, List, ◌++◌, map, ℕ, ◌+◌, ◌-◌, ◌≤◌, ◌<◌, length, get_or, take, drop}
use Rattle.laws.specs.Lists.{All}
use Rattle.edges.specs.Rule.{Fault, fine, fault, fall_fault, most_edge}

abbrev pub is_fault : Fault → Bool
is_fault fine = false
is_fault (fault number place) = true

-- the faults of a list from its second entry on
abbrev pub behind_fault : List ℕ → Fault
behind_fault edges = fall_fault 1 (get_or edges 0 0) (drop 1 edges)

-- the last entry that is not past the dot, in a list that never falls
pub record LastUpTo (edges : List ℕ) (dot last : ℕ) : Type 0 where
  pub within : last < length edges
  pub reached : get_or edges last 0 ≤ dot
  pub past : last + 1 < length edges → dot < get_or edges (last + 1) 0

-- an edge behind the track whose base changes
abbrev pub moved : (old base edge : ℕ) → ℕ
moved old base edge = (edge - old) + base

-- the edges from a place on, moved
abbrev pub moved_from : (from old base : ℕ) → List ℕ → List ℕ
moved_from from old base edges = take from edges ++ map (moved old base) (drop from edges)

-- each of them has room to move
abbrev pub CanMove : (from old base : ℕ) → List ℕ → Type 0
CanMove from old base edges = (from ≤ length edges) × All (λ (edge : ℕ). (old ≤ edge) × (moved old base edge ≤ most_edge)) (drop from edges)
