-- A call that is not refused meets what the theorems of float_agreement ask, its floats being f32, which their types say; so each call is the one with
-- Rust's own minimum and maximum. Assumes nothing.
use mathlib.Core.Path.{◌≡◌, refl, sym, ap}
use mathlib.Core.Bool.{Bool}
use mathlib.Core.List.{List, [], ◌∷◌, ◌++◌}
use Prim.Native.Nat.{ℕ, zero, suc, ◌+◌}
use lib.ListN.{length, get_or}
use lib.Ieee.{Float, nan, fits}
use Rattle.laws.specs.Lists.{All}
use Rattle.laws.specs.Alls.{all-append-left, all-append-right}
use Rattle.laws.specs.Faults.{Fault, fine, fault, first, unless, fine-both}
use Rattle.float_laws.specs.Numbers.{IsF32}
use Rattle.float_domain.specs.declared.kind.Kind.{Kind}
use Rattle.float_domain.specs.declared.kind.Kind.TheVariants.{Size, Limit, Factor, Proportion}
use Rattle.float_domain.specs.Domain.{Number, given, numbers_of, track_numbers, tracks_numbers, lengths_fault, outside_from}
use Rattle.float_domain.proofs.F32.{SizeF32, SpaceF32}
use Rattle.float_domain.proofs.Outside.{IsAccepted, accepted-of-fine, lengths-fit-head}
use Rattle.float_track.specs.declared.track.Track.{Track}
use Rattle.float_track.specs.declared.space.AvailableSpace.{AvailableSpace}
use Rattle.float_track.specs.declared.space.AvailableSpace.TheVariants.{Definite, MinContent, MaxContent}
use Rattle.std.specs.Prelude.{Option, Some, None}
use Rattle.float_track.specs.Track.{row_of}
use Rattle.float_gutters.specs.declared.AlignContent.{AlignContent}
use Rattle.float_gutters.specs.Gutters.{gutter_adjustment}
use Rattle.float_distribution.specs.Distribution.{lists, left, passes}
use Rattle.float_fr_size.specs.Fr.{fr_size}
use Rattle.float_maximise.specs.Maximise.{maximised}
use Rattle.float_agreement.specs.Inputs.{IsOf, TrackInputs, SizeInput, SpaceInput, FrInputs, GutterInputs, DistributionInputs, MaximiseInputs, StretchInputs}
use Rattle.float_agreement.specs.Rust.{IsRustMin, IsRustMax, rust_gutter_adjustment, rust_passes, rust_fr_size, rust_maximised}
use Rattle.float_agreement.proofs.FrSize.{fr-size-agrees}
use Rattle.float_agreement.proofs.Gutter.{gutter-adjustment-agrees}
use Rattle.float_agreement.proofs.Distribution.{passes-agree}
use Rattle.float_agreement.proofs.Maximised.{maximised-agrees}
use Rattle.floats.specs.Rule.{Told, number, sized, told_or, Outcome, outcome, outcome_or, size_number, space_number, flush_fault, is_gutter_count, gutter_fault, gutter_call, distribution_numbers, distribution_fault, left_outcome, distribution_call, fr_fault, fr_call, maximise_fault, maximise_call, stretch_fault}
use Rattle.floats.specs.Rust.{rust_gutter_call, rust_fr_call, rust_distribution_call, rust_maximise_call}
use Rattle.floats.proofs.Fine.{lengths-of-fine}
use Rattle.floats.proofs.Lengths.{one-length, fr-lengths, maximise-lengths, stretch-lengths}

-- ---- numbers that 13 accepts

f32-at : (xs : List Float) (i : ℕ) → All IsF32 xs → IsF32 (get_or xs i nan)
unfolding All fits
f32-at [] i f = tt
f32-at (x ∷ xs) zero f = f.0
f32-at (x ∷ xs) (suc i) f = f32-at xs i f.1

numbers-inputs : (kind : Kind) (xs : List Float) → All IsF32 xs → All IsAccepted (numbers_of kind xs) → All (IsOf kind) xs
unfolding All
numbers-inputs kind [] f a = tt
numbers-inputs kind (x ∷ xs) f a = ((f.0, a.0), numbers-inputs kind xs f.1 a.1)

track-inputs : (row : List Float) → All IsF32 row → All IsAccepted (track_numbers row) → TrackInputs row
unfolding All
track-inputs row f a = record {
  base = (f32-at row 0 f, a.0);
  limit = (f32-at row 1 f, a.1.0);
  base-planned = (f32-at row 2 f, a.1.1.0);
  limit-planned = (f32-at row 3 f, a.1.1.1.0);
  incurred = (f32-at row 4 f, a.1.1.1.1.0);
}

tracks-inputs : (rows : List (List Float)) → All (All IsF32) rows → All IsAccepted (tracks_numbers rows) → All TrackInputs rows
unfolding All tracks_numbers
tracks-inputs [] f a = tt
tracks-inputs (row ∷ rows) f a = (
  track-inputs row f.0 (all-append-left IsAccepted (track_numbers row) (tracks_numbers rows) a),
  tracks-inputs rows f.1 (all-append-right IsAccepted (track_numbers row) (tracks_numbers rows) a),
)

size-input : (size : Option Float) → SizeF32 size → IsAccepted (size_number size) → SizeInput size
size-input (Some x) f a = (f, a)
size-input None f a = tt

space-input : (space : AvailableSpace) → SpaceF32 space → IsAccepted (space_number space) → SpaceInput space
space-input (Definite x) f a = (f, a)
space-input MinContent f a = tt
space-input MaxContent f a = tt

-- the tests behind that of the lengths
rest-of-fine : (n : ℕ) (ms : List ℕ) (rest : Fault) → first (lengths_fault n ms) rest ≡ fine → rest ≡ fine
rest-of-fine n ms rest h = (fine-both (lengths_fault n ms) rest h).1

-- a first number, a run of numbers, and those behind it
head_of : (n : Number) (ns : List Number) → All IsAccepted (n ∷ ns) → IsAccepted n × All IsAccepted ns
unfolding All
head_of n ns a = a

both_of : (ms ns : List Number) → All IsAccepted (ms ++ ns) → All IsAccepted ms × All IsAccepted ns
both_of ms ns a = (all-append-left IsAccepted ms ns a, all-append-right IsAccepted ms ns a)

-- ---- a call that is not refused meets the inputs

pub flush-inputs : (t : Track) → All IsF32 (row_of t) → flush_fault t ≡ fine → TrackInputs (row_of t)
flush-inputs t f h = track-inputs (row_of t) f (accepted-of-fine 0 (track_numbers (row_of t)) h)

pub gutter-inputs : (inner : Option Float) (known : List Bool) (estimates : List Float) → SizeF32 inner → All IsF32 estimates
    → gutter_fault inner known estimates ≡ fine → GutterInputs inner known estimates
gutter-inputs inner known estimates f fs h =
    let numbers = outside_from 0 (size_number inner ∷ numbers_of Size estimates) in
    let count = unless (is_gutter_count (length known)) (fault 14 0) in
    let ms = length estimates ∷ [] in
    let a = head_of (size_number inner) (numbers_of Size estimates) (accepted-of-fine 0 (size_number inner ∷ numbers_of Size estimates) (fine-both count numbers (rest-of-fine (length known) ms (first count numbers) h)).1) in
    record {
      estimates-length = (lengths-fit-head (length known) (length estimates) [] (lengths-of-fine (length known) ms (first count numbers) h)).0;
      inner-size = size-input inner f a.0;
      sizes = numbers-inputs Size estimates fs a.1;
    }

pub distribution-inputs : (space : Float) (rows : List (List Float)) (affected : List Bool) (proportions sizes limits : List Float)
    → IsF32 space → All (All IsF32) rows → All IsF32 proportions → All IsF32 sizes → All IsF32 limits
    → distribution_fault space rows affected proportions sizes limits ≡ fine → DistributionInputs space rows affected proportions sizes limits
distribution-inputs space rows affected proportions sizes limits f frows fproportions fsizes flimits h =
    let numbers = distribution_numbers space rows proportions sizes limits in
    let ms = length affected ∷ length proportions ∷ length sizes ∷ length limits ∷ [] in
    let behind-sizes = numbers_of Size sizes ++ numbers_of Limit limits in
    let behind-tracks = numbers_of Proportion proportions ++ behind-sizes in
    let a = head_of (given Size space) (tracks_numbers rows ++ behind-tracks) (accepted-of-fine 0 numbers (rest-of-fine (length rows) ms (outside_from 0 numbers) h)) in
    let at-tracks = both_of (tracks_numbers rows) behind-tracks a.1 in
    let at-proportions = both_of (numbers_of Proportion proportions) behind-sizes at-tracks.1 in
    let at-sizes = both_of (numbers_of Size sizes) (numbers_of Limit limits) at-proportions.1 in
    record {
      lengths = one-length affected proportions sizes limits (length rows) (lengths-of-fine (length rows) ms (outside_from 0 numbers) h);
      distributed = (f, a.0);
      tracks = tracks-inputs rows frows at-tracks.0;
      proportions = numbers-inputs Proportion proportions fproportions at-proportions.0;
      sizes = numbers-inputs Size sizes fsizes at-sizes.0;
      limits = numbers-inputs Limit limits flimits at-sizes.1;
    }

pub fr-inputs : (rows : List (List Float)) (flexible : List Bool) (factors : List Float) (space : Float) → All (All IsF32) rows → All IsF32 factors → IsF32 space
    → fr_fault rows flexible factors space ≡ fine → FrInputs rows flexible factors space
fr-inputs rows flexible factors space frows ffactors f h =
    let behind = tracks_numbers rows ++ numbers_of Factor factors in
    let ms = length flexible ∷ length factors ∷ [] in
    let rest = outside_from 0 (given Size space ∷ behind) in
    let lengths = fr-lengths rows flexible factors (lengths-of-fine (length rows) ms rest h) in
    let a = head_of (given Size space) behind (accepted-of-fine 0 (given Size space ∷ behind) (rest-of-fine (length rows) ms rest h)) in
    let both = both_of (tracks_numbers rows) (numbers_of Factor factors) a.1 in
    record {
      flexible = lengths.flexible;
      factors-length = lengths.factors;
      tracks = tracks-inputs rows frows both.0;
      factors = numbers-inputs Factor factors ffactors both.1;
      filled = (f, a.0);
    }

pub maximise-inputs : (rows : List (List Float)) (limits : List Float) (space : AvailableSpace) → All (All IsF32) rows → All IsF32 limits
    → maximise_fault rows limits space ≡ fine → MaximiseInputs rows limits
maximise-inputs rows limits space frows flimits h =
    let behind = tracks_numbers rows ++ numbers_of Limit limits in
    let ms = length limits ∷ [] in
    let rest = outside_from 0 (space_number space ∷ behind) in
    let a = head_of (space_number space) behind (accepted-of-fine 0 (space_number space ∷ behind) (rest-of-fine (length rows) ms rest h)) in
    let both = both_of (tracks_numbers rows) (numbers_of Limit limits) a.1 in
    record {
      limits-length = (maximise-lengths rows limits (lengths-of-fine (length rows) ms rest h)).same;
      tracks = tracks-inputs rows frows both.0;
      fit-content = numbers-inputs Limit limits flimits both.1;
    }

pub stretch-inputs : (rows : List (List Float)) (autos : List Bool) (minimum : Option Float) (space : AvailableSpace) → All (All IsF32) rows → SizeF32 minimum → SpaceF32 space
    → stretch_fault rows autos minimum space ≡ fine → StretchInputs rows autos minimum space
stretch-inputs rows autos minimum space frows fminimum fspace h =
    let behind = space_number space ∷ tracks_numbers rows in
    let ms = length autos ∷ [] in
    let rest = outside_from 0 (size_number minimum ∷ behind) in
    let a = head_of (size_number minimum) behind (accepted-of-fine 0 (size_number minimum ∷ behind) (rest-of-fine (length rows) ms rest h)) in
    let b = head_of (space_number space) (tracks_numbers rows) a.1 in
    record {
      autos-length = (stretch-lengths rows autos (lengths-of-fine (length rows) ms rest h)).same;
      tracks = tracks-inputs rows frows b.1;
      minimum-size = size-input minimum fminimum a.0;
      stretched-to = space-input space fspace b.0;
    }

-- ---- the calls are those with Rust's own minimum and maximum, where a call that is not refused meets the inputs

told-agrees : (f : Fault) (a b : Told) → (f ≡ fine → a ≡ b) → told_or f a ≡ told_or f b
told-agrees fine a b h = h refl
told-agrees (fault n place) a b h = refl

outcome-agrees : (f : Fault) (rows : List (List Float)) (a b : Outcome) → (f ≡ fine → a ≡ b) → outcome_or f rows a ≡ outcome_or f rows b
outcome-agrees fine rows a b h = h refl
outcome-agrees (fault n place) rows a b h = refl

module _ (rust_max : Float → Float → Float) (keeps : IsRustMax rust_max) where
  pub gutter-call-agrees : (alignment : AlignContent) (inner : Option Float) (known : List Bool) (estimates : List Float)
      → (gutter_fault inner known estimates ≡ fine → GutterInputs inner known estimates)
      → gutter_call alignment inner known estimates ≡ rust_gutter_call rust_max alignment inner known estimates
  gutter-call-agrees alignment inner known estimates inputs =
      told-agrees (gutter_fault inner known estimates) (number (gutter_adjustment alignment inner known estimates)) (number (rust_gutter_adjustment rust_max alignment inner known estimates))
      (λ (h : gutter_fault inner known estimates ≡ fine). ap number (sym (gutter-adjustment-agrees rust_max keeps alignment inner known estimates (inputs h))))

  pub fr-call-agrees : (rows : List (List Float)) (flexible : List Bool) (factors : List Float) (space : Float)
      → (fr_fault rows flexible factors space ≡ fine → FrInputs rows flexible factors space)
      → fr_call rows flexible factors space ≡ rust_fr_call rust_max rows flexible factors space
  fr-call-agrees rows flexible factors space inputs =
      told-agrees (fr_fault rows flexible factors space) (number (fr_size rows flexible factors space)) (number (rust_fr_size rust_max rows flexible factors space))
      (λ (h : fr_fault rows flexible factors space ≡ fine). ap number (sym (fr-size-agrees rust_max keeps rows flexible factors space (inputs h))))

module _ (rust_min : Float → Float → Float) (keeps : IsRustMin rust_min) where
  pub distribution-call-agrees : (space : Float) (rows : List (List Float)) (affected : List Bool) (proportions sizes limits : List Float)
      → (distribution_fault space rows affected proportions sizes limits ≡ fine → DistributionInputs space rows affected proportions sizes limits)
      → distribution_call space rows affected proportions sizes limits ≡ rust_distribution_call rust_min space rows affected proportions sizes limits
  distribution-call-agrees space rows affected proportions sizes limits inputs =
      let parts = lists affected proportions sizes limits in
      outcome-agrees (distribution_fault space rows affected proportions sizes limits) rows
      (left_outcome (passes parts (length rows + 1) (left space rows))) (left_outcome (rust_passes rust_min parts (length rows + 1) (left space rows)))
      (λ (h : distribution_fault space rows affected proportions sizes limits ≡ fine).
      ap left_outcome (sym (passes-agree rust_min keeps space rows affected proportions sizes limits (inputs h) (length rows + 1))))

  pub maximise-call-agrees : (rows : List (List Float)) (limits : List Float) (space : AvailableSpace)
      → (maximise_fault rows limits space ≡ fine → MaximiseInputs rows limits)
      → maximise_call rows limits space ≡ rust_maximise_call rust_min rows limits space
  maximise-call-agrees rows limits space inputs =
      outcome-agrees (maximise_fault rows limits space) rows (outcome sized (maximised space limits rows)) (outcome sized (rust_maximised rust_min space limits rows))
      (λ (h : maximise_fault rows limits space ≡ fine). ap (outcome sized) (sym (maximised-agrees rust_min keeps space rows limits (inputs h))))
