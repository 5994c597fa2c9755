-- Which track a dot lies on: the left edges that are kept beside a finished board. They are made of its bases, asked for the track under a
-- dot, and brought up to date where one base changes. This page follows the request for it in its words and order, in the words for faults
-- of `crates/laws/specs/Faults.antt`. It assumes nothing of the code and it computes.
use Rattle.std.specs.Prelude.{ℕ, ◌+◌, ◌-◌, Bool, cond, ◌&&◌, List, [], ◌∷◌, map, ltb, leb, eqb, length, get_or, set, take}
use Rattle.laws.specs.Lists.{up_from}
use Rattle.laws.specs.Sums.{sum}
use Rattle.laws.specs.Put.{onto}
use Rattle.kinds.specs.Kinds.{Row}
use Rattle.rounds.specs.Rule.{most_dots}
pub use Rattle.laws.specs.Faults.{Fault, fine, fault, first, unless, enough}

-- ---- The edges

-- edge t is the sum of the bases before t
abbrev pub edge_of : List ℕ → ℕ → ℕ
edge_of bases t = sum (take t bases)

-- one for each track, and one last edge, which is the total
unfoldable pub edges_of : List ℕ → List ℕ
edges_of bases = map (edge_of bases) (up_from 0 (length bases + 1))

-- ---- What a dot lies on

pub data Touched : Type 0 where
  track : (index : ℕ) → Touched
  no_track : Touched

-- a track holds dots from its edge up to but not including the next
abbrev pub holds : (edge next dot : ℕ) → Bool
holds edge next dot = leb edge dot && ltb dot next

-- The full scan: the first track that holds the dot, of those from track t on, whose edge comes first. The last edge begins no track.
unfoldable pub scan_from : (t edge : ℕ) → (behind : List ℕ) → (dot : ℕ) → Touched
scan_from t edge [] dot = no_track
scan_from t edge (next ∷ behind) dot = cond (holds edge next dot) (track t) (scan_from (t + 1) next behind dot)

abbrev pub scan : List ℕ → ℕ → Touched
scan [] dot = no_track
scan (edge ∷ behind) dot = scan_from 0 edge behind dot

-- ---- 15: a list that starts above 0, falls or has no entry

-- at the first of these that is below the one before it; `place` is the first one's
unfoldable pub fall_fault : (place before : ℕ) → List ℕ → Fault
fall_fault place before [] = fine
fall_fault place before (edge ∷ behind) = first (unless (leb before edge) (fault 15 place)) (fall_fault (place + 1) edge behind)

-- at the first such entry, 0 if there is none
abbrev pub edges_fault : List ℕ → Fault
edges_fault [] = fault 15 0
edges_fault (edge ∷ behind) = first (unless (eqb edge 0) (fault 15 0)) (fall_fault 1 edge behind)

-- ---- The lookup

pub data LookupTold : Type 0 where
  touched : Touched → LookupTold
  lookup_refused : (number place : ℕ) → LookupTold

abbrev pub lookup_as : Fault → Touched → LookupTold
lookup_as fine found = touched found
lookup_as (fault number place) found = lookup_refused number place

-- 15 is its only refusal
unfoldable pub lookup_call : List ℕ → ℕ → LookupTold
lookup_call edges dot = lookup_as (edges_fault edges) (scan edges dot)

-- ---- What a call leaves that writes edges: what it tells, and what then stands in the lent edges

pub data EdgesTold : Type 0 where
  written : EdgesTold
  refused : (number place : ℕ) → EdgesTold

pub record EdgesOutcome : Type 0 where
  pub told : EdgesTold
  pub edges : List ℕ

abbrev pub edges_outcome : EdgesTold → List ℕ → EdgesOutcome
edges_outcome told edges = record { told = told; edges = edges }

-- a refusal leaves the edges as they were
abbrev pub edges_as : Fault → (new lent : List ℕ) → EdgesOutcome
edges_as fine new lent = edges_outcome written new
edges_as (fault number place) new lent = edges_outcome (refused number place) lent

-- ---- Bringing edges up to date where one base changes

-- the bases that edges tell: how far behind a track's edge the next one is
unfoldable pub bases_from : (edge : ℕ) → (behind : List ℕ) → List ℕ
bases_from edge [] = []
bases_from edge (next ∷ behind) = (next - edge) ∷ bases_from next behind

abbrev pub bases_of : List ℕ → List ℕ
bases_of [] = []
bases_of (edge ∷ behind) = bases_from edge behind

-- the bases with one of them changed
abbrev pub changed : List ℕ → (t base : ℕ) → List ℕ
changed edges t base = set (bases_of edges) t base

-- the limits: a base is at most the largest space, an edge at most what 32 bits hold
abbrev pub most_base : ℕ
most_base = most_dots

abbrev pub most_edge : ℕ
most_edge = 4294967295

-- 7, at a track, where its base or an edge behind it is past its limit
abbrev pub limit_fault : (t base edge : ℕ) → Fault
limit_fault t base edge = unless (leb base most_base && leb edge most_edge) (fault 7 t)

-- 15, then 24 for a track that is not in the list, then 7 for the new base or the new total
abbrev pub update_fault : List ℕ → (t base : ℕ) → Fault
update_fault edges t base =
    first (edges_fault edges)
    (first (unless (ltb t (length (bases_of edges))) (fault 24 t))
    (limit_fault t base (sum (changed edges t base))))

-- the edges are those of the changed bases
unfoldable pub update_call : List ℕ → (t base : ℕ) → EdgesOutcome
update_call edges t base = edges_as (update_fault edges t base) (edges_of (changed edges t base)) edges

-- ---- Making edges

-- the bases of a finished board's places, where they stand first
abbrev pub bases_in : List Row → List ℕ
bases_in places = map (λ (place : Row). get_or place 0 0) places

-- 7, at the first track past those limits, of those from track t on, whose edge is told
unfoldable pub limits_fault : (t edge : ℕ) → (bases : List ℕ) → Fault
limits_fault t edge [] = fine
limits_fault t edge (base ∷ bases) = first (limit_fault t base (edge + base)) (limits_fault (t + 1) (edge + base) bases)

-- 6 if the lent list lacks a place, then 7
abbrev pub make_fault : (bases lent : List ℕ) → Fault
make_fault bases lent = first (enough (length bases + 1) (length lent)) (limits_fault 0 0 bases)

-- edges past those of the board keep what they hold
unfoldable pub make_call : (places : List Row) → (lent : List ℕ) → EdgesOutcome
make_call places lent = edges_as (make_fault (bases_in places) lent) (onto (edges_of (bases_in places)) lent) lent
