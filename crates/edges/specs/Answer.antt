-- The code's answers in the words of the rule: each refusal by its number and place, and what each call leaves. Assumes nothing.
use Rattle.std.specs.Prelude.{Result, Ok, Err, Option, Some, None, ℕ, List}
use Rattle.edges.specs.Rule.{Fault, fine, fault, track, no_track, LookupTold, touched, lookup_refused, EdgesTold, written, refused, EdgesOutcome, edges_outcome}
use Rattle.edges.specs.declared.refusal.Refusal.{Refusal}
use Rattle.edges.specs.declared.refusal.Refusal.TheVariants.{LentTooShort, OverLimit, Unsorted, TrackMissing}

abbrev pub number_of : Refusal → ℕ
number_of LentTooShort = 6
number_of (OverLimit t) = 7
number_of (Unsorted entry) = 15
number_of (TrackMissing t) = 24

abbrev pub place_of : Refusal → ℕ
place_of LentTooShort = 0
place_of (OverLimit t) = t
place_of (Unsorted entry) = entry
place_of (TrackMissing t) = t

-- what a check found
abbrev pub fault_of : Result Unit Refusal → Fault
fault_of (Ok passed) = fine
fault_of (Err refusal) = fault (number_of refusal) (place_of refusal)

abbrev pub lookup_told : Result (Option ℕ) Refusal → LookupTold
lookup_told (Ok (Some index)) = touched (track index)
lookup_told (Ok None) = touched no_track
lookup_told (Err refusal) = lookup_refused (number_of refusal) (place_of refusal)

abbrev pub edges_told : Result Unit Refusal → EdgesTold
edges_told (Ok done) = written
edges_told (Err refusal) = refused (number_of refusal) (place_of refusal)

abbrev pub edges_leaves : Result Unit Refusal → List ℕ → EdgesOutcome
edges_leaves answer lent = edges_outcome (edges_told answer) lent
