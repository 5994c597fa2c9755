-- Maximising hands the passes clear parts. Assumes nothing.
use mathlib.Core.Path.{◌≡◌, sym, subst}
use mathlib.Core.Bool.{true}
use mathlib.Core.List.{List, [], ◌∷◌, map, zip_with}
use Prim.Native.Nat.{ℕ, zero, suc, ◌<◌}
use native.Mathlib.Nat.{le_of_suc-le-suc, not-suc-le-zero}
use lib.Dec.{T}
use lib.ListN.{length, get_or, replicate, get_or-replicate, get_or-map}
use lib.Ieee.{Float, nan, lt}
use lib.Ieee.Scale.{finite}
use native.Mathlib.Omega.{arith}
use Rattle.laws.specs.Lists.{All, all-at}
use Rattle.float_laws.specs.Numbers.{zero32, one32}
use Rattle.float_laws.specs.Std.{IsClear}
use Rattle.float_laws.proofs.Agree.{min-clear}
use Rattle.float_domain.specs.declared.kind.Kind.TheVariants.{Size, Limit}
use Rattle.float_track.specs.Track.{base_size}
use Rattle.float_maximise.specs.Maximise.{limits_of, growing}
use Rattle.float_agreement.specs.Inputs.{IsOf, TrackInputs, MaximiseInputs}
use Rattle.float_agreement.proofs.Accepted.{size-clear, size-finite, limit-clear}
use Rattle.float_agreement.proofs.Named.{one-clear, one-finite, one-above}
use Rattle.float_agreement.proofs.Parts.{ClearParts}

limits-clear : (limits : List Float) (rows : List (List Float)) → All (IsOf Limit) limits → All TrackInputs rows → length limits ≡ length rows
    → (i : ℕ) → i < length rows → IsClear (get_or (limits_of limits rows) i nan)
unfolding All zip_with
limits-clear limits [] ps qs e i h = absurd (not-suc-le-zero h)
limits-clear [] (row ∷ rows) ps qs e i h = absurd (omega (arith, e))
limits-clear (fit ∷ limits) (row ∷ rows) ps qs e zero h = min-clear (get_or row 1 nan) fit (limit-clear (get_or row 1 nan) qs.0.limit) (limit-clear fit ps.0)
limits-clear (fit ∷ limits) (row ∷ rows) ps qs e (suc i) h = limits-clear limits rows ps.1 qs.1 (omega (arith, e)) i (le_of_suc-le-suc h)

module _ (rows : List (List Float)) (limits : List Float) (h : MaximiseInputs rows limits) where
  pub growing-clear : ClearParts (growing limits rows) (length rows)
  growing-clear i below =
      let base : IsOf Size (base_size (get_or rows i [])) = (all-at TrackInputs rows i [] h.tracks below).base in
      let size : IsOf Size (get_or (map base_size rows) i nan) = subst (IsOf Size) (sym (get_or-map base_size rows i [])) base in
      let one : one32 ≡ get_or (replicate (length rows) one32) i nan = sym (get_or-replicate (length rows) i one32 nan below) in
      record {
        size-clear = size-clear _ size;
        size-finite = size-finite _ size;
        limit-clear = limits-clear limits rows h.fit-content h.tracks h.limits-length i below;
        proportion-clear = subst IsClear one one-clear;
        proportion-finite = subst (λ (x : Float). T (finite x)) one one-finite;
        proportion-above = subst (λ (x : Float). lt zero32 x ≡ true) one one-above;
      }
