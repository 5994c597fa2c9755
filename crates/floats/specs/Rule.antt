-- The float routines as calls: 12, then 14, then 13, and where nothing is refused the Rust's own steps, which the specs of
-- float_track, float_gutters, float_distribution, float_fr_size, float_maximise and float_stretch name. Assumes nothing.
use Rattle.std.specs.Prelude.{Bool, Option, Some, None, not, ◌&&◌, ◌||◌, List, [], ◌∷◌, ◌++◌, ℕ, ◌+◌, ◌%◌, eqb, length, Float}
use Rattle.laws.specs.Faults.{Fault, fine, fault, first, unless}
use Rattle.float_domain.specs.declared.kind.Kind.TheVariants.{Size, Limit, Factor, Proportion}
use Rattle.float_domain.specs.Domain.{Number, absent, given, numbers_of, track_numbers, tracks_numbers, lengths_fault, outside_from}
use Rattle.float_track.specs.declared.track.Track.{Track}
use Rattle.float_track.specs.declared.space.AvailableSpace.{AvailableSpace}
use Rattle.float_track.specs.declared.space.AvailableSpace.TheVariants.{Definite, MinContent, MaxContent}
use Rattle.float_track.specs.Track.{row_of, flush_base, flush_limit}
use Rattle.float_gutters.specs.declared.AlignContent.{AlignContent}
use Rattle.float_gutters.specs.Gutters.{gutter_adjustment}
use Rattle.float_distribution.specs.Distribution.{Left, lists, left, passes}
use Rattle.float_fr_size.specs.Fr.{fr_size}
use Rattle.float_maximise.specs.Maximise.{maximised}
use Rattle.float_stretch.specs.Stretch.{stretched}

-- ---- What a call tells, and what it leaves

pub data Told : Type 0 where
  number : Float → Told
  sized : Told
  flushed : Track → Told
  refused : ℕ → ℕ → Told

abbrev pub told_or : Fault → Told → Told
told_or fine answer = answer
told_or (fault n place) answer = refused n place

pub record Outcome : Type 0 where
  pub told : Told
  pub tracks : List (List Float)

abbrev pub outcome : Told → List (List Float) → Outcome
outcome told rows = record { told = told; tracks = rows }

-- A refusal leaves the tracks as they were.
abbrev pub outcome_or : Fault → List (List Float) → Outcome → Outcome
outcome_or fine before after = after
outcome_or (fault n place) before after = outcome (refused n place) before

-- A number that may be absent keeps its place in the count.
abbrev pub size_number : Option Float → Number
size_number (Some x) = given Size x
size_number None = absent

abbrev pub space_number : AvailableSpace → Number
space_number (Definite x) = given Size x
space_number MinContent = absent
space_number MaxContent = absent

-- ---- 1. The two flushes

abbrev pub flush_fault : Track → Fault
flush_fault t = outside_from 0 (track_numbers (row_of t))

abbrev pub flush_base_call : Track → Told
flush_base_call t = told_or (flush_fault t) (flushed (flush_base t))

abbrev pub flush_limit_call : Track → Bool → Told
flush_limit_call t mark = told_or (flush_fault t) (flushed (flush_limit t mark))

-- ---- 2. The gutter adjustment

-- 14: the count is 3, or even and not 0.
abbrev pub is_gutter_count : ℕ → Bool
is_gutter_count count = not (eqb count 3) && (eqb count 0 || eqb (count % 2) 1)

abbrev pub gutter_fault : Option Float → List Bool → List Float → Fault
gutter_fault inner known estimates =
    first (lengths_fault (length known) (length estimates ∷ []))
    (first (unless (is_gutter_count (length known)) (fault 14 0))
    (outside_from 0 (size_number inner ∷ numbers_of Size estimates)))

abbrev pub gutter_call : AlignContent → Option Float → List Bool → List Float → Told
gutter_call alignment inner known estimates =
    told_or (gutter_fault inner known estimates) (number (gutter_adjustment alignment inner known estimates))

-- ---- 3. The distribution to limits

abbrev pub distribution_numbers : Float → List (List Float) → List Float → List Float → List Float → List Number
distribution_numbers space rows proportions sizes limits =
    given Size space
    ∷ (tracks_numbers rows ++ (numbers_of Proportion proportions ++ (numbers_of Size sizes ++ numbers_of Limit limits)))

abbrev pub distribution_fault : Float → List (List Float) → List Bool → List Float → List Float → List Float → Fault
distribution_fault space rows affected proportions sizes limits =
    first (lengths_fault (length rows) (length affected ∷ length proportions ∷ length sizes ∷ length limits ∷ []))
    (outside_from 0 (distribution_numbers space rows proportions sizes limits))

-- The space that is left, and the tracks.
abbrev pub left_outcome : Left → Outcome
left_outcome l = outcome (number l.space) l.tracks

abbrev pub distribution_call : Float → List (List Float) → List Bool → List Float → List Float → List Float → Outcome
distribution_call space rows affected proportions sizes limits =
    outcome_or (distribution_fault space rows affected proportions sizes limits) rows
    (left_outcome (passes (lists affected proportions sizes limits) (length rows + 1) (left space rows)))

-- ---- 4. The size of an fr

abbrev pub fr_fault : List (List Float) → List Bool → List Float → Float → Fault
fr_fault rows flexible factors space =
    first (lengths_fault (length rows) (length flexible ∷ length factors ∷ []))
    (outside_from 0 (given Size space ∷ (tracks_numbers rows ++ numbers_of Factor factors)))

abbrev pub fr_call : List (List Float) → List Bool → List Float → Float → Told
fr_call rows flexible factors space =
    told_or (fr_fault rows flexible factors space) (number (fr_size rows flexible factors space))

-- ---- 5. Maximise

abbrev pub maximise_fault : List (List Float) → List Float → AvailableSpace → Fault
maximise_fault rows fits space =
    first (lengths_fault (length rows) (length fits ∷ []))
    (outside_from 0 (space_number space ∷ (tracks_numbers rows ++ numbers_of Limit fits)))

abbrev pub maximise_call : List (List Float) → List Float → AvailableSpace → Outcome
maximise_call rows fits space = outcome_or (maximise_fault rows fits space) rows (outcome sized (maximised space fits rows))

-- ---- 6. Stretch

abbrev pub stretch_fault : List (List Float) → List Bool → Option Float → AvailableSpace → Fault
stretch_fault rows autos minimum space =
    first (lengths_fault (length rows) (length autos ∷ []))
    (outside_from 0 (size_number minimum ∷ space_number space ∷ tracks_numbers rows))

abbrev pub stretch_call : List (List Float) → List Bool → Option Float → AvailableSpace → Outcome
stretch_call rows autos minimum space =
    outcome_or (stretch_fault rows autos minimum space) rows (outcome sized (stretched minimum space autos rows))
