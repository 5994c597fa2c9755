-- The size of an fr with Rust's maximum is ours. Assumes nothing.
use mathlib.Core.Path.{◌≡◌, refl, ap, ◌∙◌}
use mathlib.Core.Logic.{⊎_elim}
use mathlib.Core.Bool.{Bool, true, false, cond}
use mathlib.Core.List.{List}
use Prim.Native.Nat.{ℕ, zero, suc, ◌+◌, ◌≤◌}
use native.Mathlib.Nat.{le_of_suc-le, le_refl}
use lib.ListN.{length, get_or}
use lib.Ieee as Ieee
use lib.Ieee.{Float, nan, binary32}
use lib.Ieee.Fits.{add-fits}
use Rattle.laws.specs.Lists.{All, all-at}
use Rattle.laws.specs.Turns.{turns}
use Rattle.laws.specs.Tests.{true-or-false}
use Rattle.float_laws.specs.Numbers.{zero32, one32, infinity}
use Rattle.float_laws.specs.Std.{IsClear}
use Rattle.float_laws.proofs.Agree.{zero_clear, max-agrees}
use Rattle.float_laws.proofs.Clear.{add-clear}
use Rattle.float_domain.specs.declared.kind.Kind.TheVariants.{Factor}
use Rattle.float_fr_size.specs.Fr.{flex_at, grows, add_to, add_step, sums_of, all_hold, next_fr, fr_passes, fr_size}
use Rattle.float_agreement.specs.Rust.{IsRustMax, rust_next_fr, rust_fr_passes, rust_fr_size}
use Rattle.float_agreement.specs.Inputs.{IsOf, FrInputs}
use Rattle.float_agreement.proofs.Accepted.{factor-clear}
use Rattle.float_agreement.proofs.Named.{one-clear}

module _ (rows : List (List Float)) (fs : List Bool) (xs : List Float) (same : length xs ≡ length rows) (each : All (IsOf Factor) xs) where
  sums-clear-to : (fr : Float) (n : ℕ) → n ≤ length rows → IsClear (turns (add_step rows fs xs fr) n (record { used = zero32; factors = zero32 })).factors
  unfolding turns
  sums-clear-to fr zero h = zero_clear
  sums-clear-to fr (suc n) h =
      let s = turns (add_step rows fs xs fr) n (record { used = zero32; factors = zero32 }) in
      let factor = factor-clear (get_or xs n nan) (all-at (IsOf Factor) xs n nan each (rw same h)) in
      let sofar = sums-clear-to fr n (le_of_suc-le h) in
      ⊎_elim
      (λ (e : grows (flex_at rows fs xs n) fr ≡ true). rw (e, add_to) (add-fits binary32 s.factors (get_or xs n nan), add-clear binary32 s.factors (get_or xs n nan) sofar.1 factor.1))
      (λ (e : grows (flex_at rows fs xs n) fr ≡ false). rw (e, add_to) sofar)
      (true-or-false (grows (flex_at rows fs xs n) fr))

  factors-clear : (fr : Float) → IsClear (sums_of rows fs xs fr).factors
  factors-clear fr = sums-clear-to fr (length rows) (le_refl (length rows))

  module _ (rust_max : Float → Float → Float) (keeps : IsRustMax rust_max) (space : Float) where
    next-agrees : (fr : Float) → rust_next_fr rust_max rows fs xs space fr ≡ next_fr rows fs xs space fr
    next-agrees fr =
        let sum = (sums_of rows fs xs fr).factors in
        ap (λ (d : Float). Ieee.div binary32 (Ieee.sub binary32 space (sums_of rows fs xs fr).used) d)
        (max-agrees sum one32 (rust_max sum one32) (factors-clear fr) one-clear (keeps sum one32))

    passes-agree : (n : ℕ) (fr : Float) → rust_fr_passes rust_max rows fs xs space n fr ≡ fr_passes rows fs xs space n fr
    unfolding rust_fr_passes fr_passes
    passes-agree zero fr = refl
    passes-agree (suc n) fr =
        ap (λ (next : Float). elim (all_hold rows fs xs next fr) as (λ _. Float) [ true ↦ next | false ↦ rust_fr_passes rust_max rows fs xs space n next ]) (next-agrees fr)
        ∙ ap (λ (rest : Float). elim (all_hold rows fs xs (next_fr rows fs xs space fr) fr) as (λ _. Float) [ true ↦ next_fr rows fs xs space fr | false ↦ rest ]) (passes-agree n (next_fr rows fs xs space fr))

pub fr-size-agrees : (rust_max : Float → Float → Float) → IsRustMax rust_max → (rows : List (List Float)) (fs : List Bool) (xs : List Float) (space : Float)
    → FrInputs rows fs xs space → rust_fr_size rust_max rows fs xs space ≡ fr_size rows fs xs space
fr-size-agrees rust_max keeps rows fs xs space h =
    ap (cond (Ieee.eq space zero32) zero32) (passes-agree rows fs xs h.factors-length h.factors rust_max keeps space (length rows + 1) infinity)
