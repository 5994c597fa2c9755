-- The gutter adjustment with Rust's maximum is ours. Assumes nothing.
use mathlib.Core.Path.{◌≡◌, refl, sym, ap, ◌∙◌}
use mathlib.Core.Bool.{Bool, true, false, cond}
use mathlib.Core.List.{List, [], ◌∷◌}
use native.Mathlib.Omega.{arith}
use lib.Dec.{leb, eqb}
use lib.ListN.{length}
use lib.Ieee.{Float, binary32, sub}
use lib.Ieee.Fits.{sub-fits}
use borrow.Author.Tests.{le-leb}
use Rattle.laws.specs.Lists.{All, every}
use Rattle.laws.specs.Alls.{all_map}
use Rattle.laws.specs.Tests.{never}
use Rattle.float_laws.specs.Numbers.{zero32}
use Rattle.float_laws.specs.Std.{IsClear, max_of}
use Rattle.float_laws.specs.Sum.{sum_of}
use Rattle.float_laws.proofs.Agree.{max-with-zero-agrees}
use Rattle.float_laws.proofs.Clear.{sub-not-minus-zero}
use Rattle.float_domain.specs.declared.kind.Kind.TheVariants.{Size}
use Rattle.std.specs.Prelude.{Option, Some, None}
use Rattle.float_gutters.specs.declared.AlignContent.{AlignContent}
use Rattle.float_gutters.specs.Gutters.{inner_weight, itself, adjustment, adjustment_of, gutter_adjustment}
use Rattle.float_agreement.specs.Rust.{IsRustMax, rust_adjustment_of, rust_gutter_adjustment}
use Rattle.float_agreement.specs.Inputs.{IsOf, GutterInputs}
use Rattle.float_agreement.proofs.Accepted.{size-clear, size-finite}
use Rattle.float_agreement.proofs.Sums.{sum-of-clear}
use Rattle.float_agreement.proofs.Differences.{sub-not-nan}

unless-cond : (b : Bool) (x y z : Float) → (b ≡ false → y ≡ z) → cond b x y ≡ cond b x z
unless-cond true x y z e = refl
unless-cond false x y z e = e refl

module _ (rust_max : Float → Float → Float) (keeps : IsRustMax rust_max) where
  larger-agrees : (size : Float) (estimates : List Float) → IsOf Size size → All (IsOf Size) estimates → (length estimates ≡ 0 → ⊥)
      → rust_max zero32 (sub binary32 size (sum_of estimates)) ≡ max_of zero32 (sub binary32 size (sum_of estimates))
  larger-agrees size [] p ps some = absurd (some refl)
  larger-agrees size (x ∷ xs) p ps some =
      let total = sum_of (x ∷ xs) in
      let total-clear = sum-of-clear x xs (all_map (IsOf Size) IsClear size-clear (x ∷ xs) ps) in
      let difference = sub binary32 size total in
      max-with-zero-agrees difference (rust_max zero32 difference) (sub-fits binary32 size total)
      (sub-not-nan size total (size-clear size p).1 (size-finite size p) total-clear.1) (sub-not-minus-zero size total (size-clear size p) total-clear) (keeps zero32 difference)

  adjustment-agrees : (alignment : AlignContent) (inner : Option Float) (known : List Bool) (estimates : List Float) → GutterInputs inner known estimates
      → leb (length known) 1 ≡ false → rust_adjustment_of rust_max alignment inner known estimates ≡ adjustment_of alignment inner known estimates
  adjustment-agrees alignment None known estimates h more = refl
  adjustment-agrees alignment (Some size) known estimates h more =
      ap (λ (free : Float). adjustment alignment (cond (every itself known) free zero32) (length known))
      (larger-agrees size estimates h.inner-size h.sizes (λ (none : length estimates ≡ 0). few (sym h.estimates-length ∙ none)))
    where
      few : length known ≡ 0 → ⊥
      few e = never (le-leb (length known) 1 (omega (arith, e))) more

pub gutter-adjustment-agrees : (rust_max : Float → Float → Float) → IsRustMax rust_max → (alignment : AlignContent) (inner : Option Float) (known : List Bool) (estimates : List Float)
    → GutterInputs inner known estimates → rust_gutter_adjustment rust_max alignment inner known estimates ≡ gutter_adjustment alignment inner known estimates
gutter-adjustment-agrees rust_max keeps alignment inner known estimates h =
    unless-cond (leb (length known) 1) zero32 (cond (eqb (inner_weight alignment) 0) zero32 (rust_adjustment_of rust_max alignment inner known estimates)) (cond (eqb (inner_weight alignment) 0) zero32 (adjustment_of alignment inner known estimates))
    (λ (more : leb (length known) 1 ≡ false). ap (cond (eqb (inner_weight alignment) 0) zero32) (adjustment-agrees rust_max keeps alignment inner known estimates h more))
