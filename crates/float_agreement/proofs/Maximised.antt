-- Maximising with Rust's minimum and `min_by(total_cmp)` is ours. Assumes nothing.
use mathlib.Core.Path.{◌≡◌, refl, ap, ◌∙◌}
use mathlib.Core.Bool.{Bool, true, false, cond, true≢false, false≢true}
use mathlib.Core.List.{List, map}
use Prim.Native.Nat.{◌+◌}
use lib.Dec.{T}
use lib.ListN.{length, replicate}
use lib.Ieee.{Float, nan, inf, fin, binary32, lt, eq, fits, of_bits}
use lib.Ieee.Bits.{of_bits-fits}
use lib.Ieee.Fits.{sub-fits}
use Rattle.float_laws.specs.Numbers.{zero32, one32, infinity}
use Rattle.float_track.specs.declared.space.AvailableSpace.{AvailableSpace}
use Rattle.float_track.specs.declared.space.AvailableSpace.TheVariants.{Definite, MinContent, MaxContent}
use Rattle.float_track.specs.Space.{free_space}
use Rattle.float_track.specs.Track.{base_size, used_space}
use Rattle.float_distribution.specs.Distribution.{Left, lists, left}
use Rattle.float_maximise.specs.Maximise.{to_limit, with_increase, growing, filled_up, maximised}
use Rattle.float_agreement.specs.Rust.{IsRustMin, rust_passes, rust_filled_up, rust_maximised}
use Rattle.float_agreement.specs.Inputs.{MaximiseInputs}
use Rattle.float_agreement.proofs.Distribution.{passes-agree-from}
use Rattle.float_agreement.proofs.Growing.{growing-clear}
use Rattle.float_agreement.proofs.Kept.{kept-at-first}
use Rattle.float_agreement.proofs.Limits.{limits-agree}

-- ---- the free space

free-fits : (space : AvailableSpace) (used : Float) → T (fits binary32 (free_space space used))
free-fits (Definite size) used = sub-fits binary32 size used
free-fits MinContent used = of_bits-fits binary32 0
free-fits MaxContent used = of_bits-fits binary32 0x7f80_0000

below-infinity : (x : Float) → eq x infinity ≡ false → lt zero32 x ≡ true → lt x infinity ≡ true
unfolding eq lt of_bits
below-infinity nan e h = absurd (false≢true h)
below-infinity (inf true) e h = absurd (false≢true h)
below-infinity (inf false) e h = absurd (true≢false e)
below-infinity (fin s m d) e h = refl

-- ---- the theorem

either-cond : {A : Type 0} (b c : Bool) (x y z w : A) → (b ≡ false → c ≡ true → y ≡ z) → cond b x (cond c y w) ≡ cond b x (cond c z w)
either-cond true c x y z w e = refl
either-cond false true x y z w e = e refl refl
either-cond false false x y z w e = refl

module _ (rust_min : Float → Float → Float) (keeps : IsRustMin rust_min) (rows : List (List Float)) (limits : List Float) (h : MaximiseInputs rows limits) where
  filled-agrees : (free : Float) → T (fits binary32 free) → eq free infinity ≡ false → lt zero32 free ≡ true → rust_filled_up rust_min free limits rows ≡ filled_up free limits rows
  filled-agrees free f e above =
      ap (λ (ls : List Float). (rust_passes rust_min (lists (replicate (length rows) true) (replicate (length rows) one32) (map base_size rows) ls) (length rows + 1) (left free rows)).tracks)
      (limits-agree rust_min keeps limits rows h.fit-content h.tracks)
      ∙ ap (λ (s : Left). s.tracks)
      (passes-agree-from rust_min keeps (growing limits rows) (length rows) (growing-clear rows limits h) (length rows + 1) (left free rows) (kept-at-first free rows h.tracks f (below-infinity free e above)))

pub maximised-agrees : (rust_min : Float → Float → Float) → IsRustMin rust_min → (space : AvailableSpace) (rows : List (List Float)) (limits : List Float)
    → MaximiseInputs rows limits → rust_maximised rust_min space limits rows ≡ maximised space limits rows
maximised-agrees rust_min keeps space rows limits h =
    let free = free_space space (used_space rows) in
    either-cond (eq free infinity) (lt zero32 free) (map to_limit rows) (map with_increase (rust_filled_up rust_min free limits rows)) (map with_increase (filled_up free limits rows)) rows
    (λ (e : eq free infinity ≡ false) (above : lt zero32 free ≡ true). ap (map with_increase) (filled-agrees rust_min keeps rows limits h free (free-fits space (used_space rows)) e above))
