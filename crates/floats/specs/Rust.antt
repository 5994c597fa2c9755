-- The calls of the rule with Rust's own minimum and maximum: what is refused is the same, and where nothing is, the routine is the one that
-- float_agreement's specs name, with `f32::min`, `f32::max` and `min_by(total_cmp)` where the Rust has them. The flushes and stretch take none of these.
-- Assumes nothing.
use Rattle.std.specs.Prelude.{Bool, Option, List, ◌+◌, length, Float}
use Rattle.float_track.specs.declared.space.AvailableSpace.{AvailableSpace}
use Rattle.float_gutters.specs.declared.AlignContent.{AlignContent}
use Rattle.float_distribution.specs.Distribution.{lists, left}
use Rattle.float_agreement.specs.Rust.{rust_gutter_adjustment, rust_passes, rust_fr_size, rust_maximised}
use Rattle.floats.specs.Rule.{Told, number, sized, told_or, Outcome, outcome, outcome_or, left_outcome, gutter_fault, distribution_fault, fr_fault, maximise_fault}

module _ (rust_max : Float → Float → Float) where
  abbrev pub rust_gutter_call : AlignContent → Option Float → List Bool → List Float → Told
  rust_gutter_call alignment inner known estimates =
      told_or (gutter_fault inner known estimates) (number (rust_gutter_adjustment rust_max alignment inner known estimates))

  abbrev pub rust_fr_call : List (List Float) → List Bool → List Float → Float → Told
  rust_fr_call rows flexible factors space =
      told_or (fr_fault rows flexible factors space) (number (rust_fr_size rust_max rows flexible factors space))

module _ (rust_min : Float → Float → Float) where
  abbrev pub rust_distribution_call : Float → List (List Float) → List Bool → List Float → List Float → List Float → Outcome
  rust_distribution_call space rows affected proportions sizes limits =
      outcome_or (distribution_fault space rows affected proportions sizes limits) rows
      (left_outcome (rust_passes rust_min (lists affected proportions sizes limits) (length rows + 1) (left space rows)))

  abbrev pub rust_maximise_call : List (List Float) → List Float → AvailableSpace → Outcome
  rust_maximise_call rows fits space =
      outcome_or (maximise_fault rows fits space) rows (outcome sized (rust_maximised rust_min space fits rows))
