-- The passes of the distribution with Rust's minimum and `min_by(total_cmp)` are ours. Assumes nothing.
use mathlib.Core.Path.{◌≡◌, refl, sym, ap, ◌∙◌, subst}
use mathlib.Core.Bool.{Bool, true, false, ◌||◌, true≢false}
use mathlib.Core.List.{List}
use Prim.Native.Nat.{ℕ, zero, suc}
use lib.Ieee.{Float, nan, binary32, div, le, eq}
use lib.Ieee.Fits.{div-fits}
use lib.ListN.{length}
use Rattle.laws.specs.Lists.{all-at}
use Rattle.float_laws.specs.Numbers.{zero32}
use Rattle.float_laws.specs.Std.{IsClear}
use Rattle.float_laws.proofs.Agree.{min-agrees}
use Rattle.float_domain.specs.declared.kind.Kind.TheVariants.{Size, Limit, Proportion}
use Rattle.float_distribution.specs.Distribution.{Lists, Left, lists, left, threshold, proportion_sum, least_room, share_of, stops, one_pass, passes}
use Rattle.float_agreement.specs.Rust.{IsRustMin, rust_share, rust_passes}
use Rattle.float_agreement.specs.Inputs.{IsOf, DistributionInputs}
use Rattle.float_agreement.proofs.Accepted.{size-clear, size-finite, limit-clear, proportion-clear, proportion-finite, proportion-above}
use Rattle.float_agreement.proofs.Differences.{finite-below-infinity}
use Rattle.float_agreement.proofs.Kept.{Kept, kept-at-first, kept-one-pass}
use Rattle.float_agreement.proofs.Parts.{ClearParts}
use Rattle.float_agreement.proofs.Rooms.{sum-clear, least-clear, least-agrees}
use Rattle.float_agreement.proofs.Shares.{clear-above-hundredth, div-clear-of-not-zero}

neither : (a b : Bool) → (a || b) ≡ false → (a ≡ false) × (b ≡ false)
neither true b e = absurd (true≢false e)
neither false b e = (refl, e)

module _ (rust_min : Float → Float → Float) (keeps : IsRustMin rust_min) (l : Lists) (n : ℕ) (parts : ClearParts l n) where
  share-agrees : (s : Left) → Kept n s → stops l s ≡ false → rust_share rust_min l s ≡ share_of l s
  share-agrees s k goes_on =
      let rows = s.tracks in
      let sum = proportion_sum l rows in
      let both = neither (le s.space threshold) (eq sum zero32) goes_on in
      let here : ClearParts l (length rows) = subst (ClearParts l) (sym k.count) parts in
      let quotient = div binary32 s.space sum in
      let quotient-clear : IsClear quotient = (
        div-fits binary32 s.space sum,
        div-clear-of-not-zero s.space sum (clear-above-hundredth s.space k.space-below both.0) k.space-below (sum-clear l rows here k.increases both.1).1 both.1,
      ) in
      ap (λ (x : Float). rust_min x quotient) (least-agrees l rows here k.increases both.1)
      ∙ min-agrees (least_room l rows) quotient (rust_min (least_room l rows) quotient) (least-clear l rows here k.increases) quotient-clear (keeps (least_room l rows) quotient)

  pub passes-agree-from : (most : ℕ) (s : Left) → Kept n s → rust_passes rust_min l most s ≡ passes l most s
  unfolding rust_passes passes
  passes-agree-from zero s k = refl
  passes-agree-from (suc most) s k =
      go (stops l s) refl (passes-agree-from most (one_pass l (share_of l s) s) (kept-one-pass l (share_of l s) n s k))
    where
      go : (b : Bool) → stops l s ≡ b → rust_passes rust_min l most (one_pass l (share_of l s) s) ≡ passes l most (one_pass l (share_of l s) s)
          → ◌≡◌ {A = Left} (elim b [ true ↦ s | false ↦ rust_passes rust_min l most (one_pass l (rust_share rust_min l s) s) ])
          (elim b [ true ↦ s | false ↦ passes l most (one_pass l (share_of l s) s) ])
      go true e rest = refl
      go false e rest = ap (λ (share : Float). rust_passes rust_min l most (one_pass l share s)) (share-agrees s k e) ∙ rest

module _ (space : Float) (rows : List (List Float)) (fs : List Bool) (ps ss ls : List Float) (h : DistributionInputs space rows fs ps ss ls) where
  parts-clear : ClearParts (lists fs ps ss ls) (length rows)
  parts-clear i below =
      let size = all-at (IsOf Size) ss i nan h.sizes (rw h.lengths.sizes below) in
      let limit = all-at (IsOf Limit) ls i nan h.limits (rw h.lengths.limits below) in
      let proportion = all-at (IsOf Proportion) ps i nan h.proportions (rw h.lengths.proportions below) in
      record {
        size-clear = size-clear _ size;
        size-finite = size-finite _ size;
        limit-clear = limit-clear _ limit;
        proportion-clear = proportion-clear _ proportion;
        proportion-finite = proportion-finite _ proportion;
        proportion-above = proportion-above _ proportion;
      }

pub passes-agree : (rust_min : Float → Float → Float) → IsRustMin rust_min → (space : Float) (rows : List (List Float)) (fs : List Bool) (ps ss ls : List Float)
    → DistributionInputs space rows fs ps ss ls → (most : ℕ) → rust_passes rust_min (lists fs ps ss ls) most (left space rows) ≡ passes (lists fs ps ss ls) most (left space rows)
passes-agree rust_min keeps space rows fs ps ss ls h most =
    passes-agree-from rust_min keeps (lists fs ps ss ls) (length rows) (parts-clear space rows fs ps ss ls h) most (left space rows)
    (kept-at-first space rows h.tracks h.distributed.0 (finite-below-infinity space (size-finite space h.distributed)))
