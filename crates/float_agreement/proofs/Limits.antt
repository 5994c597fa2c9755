-- The smaller of growth limit and fit-content limit with Rust's minimum is ours. Assumes nothing.
use mathlib.Core.Path.{◌≡◌, refl, ap, ◌∙◌}
use mathlib.Core.List.{List, [], ◌∷◌, zip_with}
use lib.ListN.{get_or}
use lib.Ieee.{Float, nan}
use Rattle.laws.specs.Lists.{All}
use Rattle.float_laws.proofs.Agree.{min-agrees}
use Rattle.float_domain.specs.declared.kind.Kind.TheVariants.{Limit}
use Rattle.float_maximise.specs.Maximise.{limit_of, limits_of}
use Rattle.float_agreement.specs.Rust.{IsRustMin, rust_limit_of, rust_limits_of}
use Rattle.float_agreement.specs.Inputs.{IsOf, TrackInputs}
use Rattle.float_agreement.proofs.Accepted.{limit-clear}

module _ (rust_min : Float → Float → Float) (keeps : IsRustMin rust_min) where
  limit_agrees : (fit : Float) (row : List Float) → IsOf Limit fit → TrackInputs row → rust_limit_of rust_min fit row ≡ limit_of fit row
  limit_agrees fit row p q =
      let growth = get_or row 1 nan in
      min-agrees growth fit (rust_min growth fit) (limit-clear growth q.limit) (limit-clear fit p) (keeps growth fit)

  pub limits-agree : (limits : List Float) (rows : List (List Float)) → All (IsOf Limit) limits → All TrackInputs rows → rust_limits_of rust_min limits rows ≡ limits_of limits rows
  unfolding All zip_with
  limits-agree [] rows ps qs = refl
  limits-agree (fit ∷ limits) [] ps qs = refl
  limits-agree (fit ∷ limits) (row ∷ rows) ps qs =
      ap (λ (x : Float). x ∷ rust_limits_of rust_min limits rows) (limit_agrees fit row ps.0 qs.0)
      ∙ ap (λ (xs : List Float). limit_of fit row ∷ xs) (limits-agree limits rows ps.1 qs.1)
