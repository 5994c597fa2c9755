-- The routines in the Rust's own forms: `f32::min`, `f32::max` and `min_by(total_cmp)` stand where ours compare with `<`. All else is as in the routines' own specs.
-- What the minimum and the maximum are is left open: a theorem takes any two that keep Rust's documentation. Assumes nothing.
use Rattle.std.specs.Prelude.{Bool, true, false, cond, Option, Some, None, ℕ, zero, suc, ◌+◌, leb, eqb, length, get_or, replicate, Float}
use mathlib.Core.List.{List, [], ◌∷◌, map, zip_with}
use Rattle.std.specs.Float.Ieee as Ieee
use Rattle.std.specs.Float.{nan, binary32}
use Rattle.laws.specs.Lists.{keep, every, up_from}
use Rattle.float_laws.specs.Numbers.{zero32, one32, infinity}
use Rattle.float_laws.specs.Std.{MinAllows, MaxAllows, min_by_total}
use Rattle.float_laws.specs.Sum.{sum_of}
use Rattle.float_track.specs.declared.space.AvailableSpace.{AvailableSpace}
use Rattle.float_track.specs.Space.{free_space}
use Rattle.float_track.specs.Track.{base_size, used_space}
use Rattle.float_distribution.specs.Distribution.{Lists, Left, lists, left, part_at, track_at, is_open, room_of, proportion_sum, stops, one_pass}
use Rattle.float_fr_size.specs.Fr.{sums_of, all_hold}
use Rattle.float_gutters.specs.declared.AlignContent.{AlignContent}
use Rattle.float_gutters.specs.Gutters.{inner_weight, itself, adjustment}
use Rattle.float_maximise.specs.Maximise.{to_limit, with_increase}

-- a function that keeps the documentation of `f32::min`, and one that keeps that of `f32::max`
abbrev pub IsRustMin : (Float → Float → Float) → Type 0
IsRustMin rust_min = (a b : Float) → MinAllows a b (rust_min a b)

abbrev pub IsRustMax : (Float → Float → Float) → Type 0
IsRustMax rust_max = (a b : Float) → MaxAllows a b (rust_max a b)

-- ---- The size of an fr: `f32_max(naive_flex_factor_sum, 1.0)`

module _ (rust_max : Float → Float → Float) (rows : List (List Float)) (fs : List Bool) (xs : List Float) where
  abbrev pub rust_next_fr : Float → Float → Float
  rust_next_fr space fr =
      Ieee.div binary32 (Ieee.sub binary32 space (sums_of rows fs xs fr).used) (rust_max (sums_of rows fs xs fr).factors one32)

  unfoldable pub rust_fr_passes : Float → ℕ → Float → Float
  rust_fr_passes space zero fr = fr
  rust_fr_passes space (suc most) fr =
      elim (all_hold rows fs xs (rust_next_fr space fr) fr) [
        | true ↦ rust_next_fr space fr
        | false ↦ rust_fr_passes space most (rust_next_fr space fr)
      ]

  abbrev pub rust_fr_size : Float → Float
  rust_fr_size space = cond (Ieee.eq space zero32) zero32 (rust_fr_passes space (length rows + 1) infinity)

-- ---- The gutter adjustment: `f32_max(0.0, axis_inner_node_size - track_size_sum)`

module _ (rust_max : Float → Float → Float) where
  abbrev pub rust_free_of : Float → List Bool → List Float → Float
  rust_free_of size known estimates =
      cond (every itself known) (rust_max zero32 (Ieee.sub binary32 size (sum_of estimates))) zero32

  abbrev pub rust_adjustment_of : AlignContent → Option Float → List Bool → List Float → Float
  rust_adjustment_of alignment (Some size) known estimates =
      adjustment alignment (rust_free_of size known estimates) (length known)
  rust_adjustment_of alignment None known estimates = zero32

  abbrev pub rust_gutter_adjustment : AlignContent → Option Float → List Bool → List Float → Float
  rust_gutter_adjustment alignment inner known estimates =
      cond (leb (length known) 1) zero32
      (cond (eqb (inner_weight alignment) 0) zero32 (rust_adjustment_of alignment inner known estimates))

-- ---- The distribution to limits: `f32_min(min_increase_limit, space_to_distribute / track_distribution_proportion_sum)`

-- the places of the open tracks, in order
abbrev pub open_places : Lists → List (List Float) → List ℕ
open_places l rows = keep (λ (i : ℕ). is_open (part_at l i) (track_at rows i)) (up_from 0 (length rows))

-- the room of each of them
abbrev pub rooms_of : Lists → List (List Float) → List Float
rooms_of l rows = map (λ (i : ℕ). room_of (part_at l i) (track_at rows i)) (open_places l rows)

-- `.min_by(|a, b| a.total_cmp(b)).unwrap()`. Of an empty list, where the Rust panics, it is a NaN: the passes stop before they come to it.
abbrev pub least_by_total : List Float → Float
least_by_total [] = nan
least_by_total (x ∷ xs) = min_by_total x xs

abbrev pub rust_least : Lists → List (List Float) → Float
rust_least l rows = least_by_total (rooms_of l rows)

module _ (rust_min : Float → Float → Float) (l : Lists) where
  abbrev pub rust_share : Left → Float
  rust_share s = rust_min (rust_least l s.tracks) (Ieee.div binary32 s.space (proportion_sum l s.tracks))

  unfoldable pub rust_passes : ℕ → Left → Left
  rust_passes zero s = s
  rust_passes (suc most) s = elim (stops l s) [ true ↦ s | false ↦ rust_passes most (one_pass l (rust_share s) s) ]

-- ---- Maximise: `f32_min(self.growth_limit, self.fit_content_limit(..))`, and the passes above

module _ (rust_min : Float → Float → Float) where
  abbrev pub rust_limit_of : Float → List Float → Float
  rust_limit_of fit row = rust_min (get_or row 1 nan) fit

  abbrev pub rust_limits_of : List Float → List (List Float) → List Float
  rust_limits_of fits rows = zip_with rust_limit_of fits rows

  abbrev pub rust_growing : List Float → List (List Float) → Lists
  rust_growing fits rows =
      lists (replicate (length rows) true) (replicate (length rows) one32) (map base_size rows) (rust_limits_of fits rows)

  abbrev pub rust_filled_up : Float → List Float → List (List Float) → List (List Float)
  rust_filled_up free fits rows = (rust_passes rust_min (rust_growing fits rows) (length rows + 1) (left free rows)).tracks

  abbrev pub rust_maximised_by : Float → List Float → List (List Float) → List (List Float)
  rust_maximised_by free fits rows =
      cond (Ieee.eq free infinity) (map to_limit rows)
      (cond (Ieee.lt zero32 free) (map with_increase (rust_filled_up free fits rows)) rows)

  abbrev pub rust_maximised : AvailableSpace → List Float → List (List Float) → List (List Float)
  rust_maximised space fits rows = rust_maximised_by (free_space space (used_space rows)) fits rows
