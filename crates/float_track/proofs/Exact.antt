-- The used space of whole base sizes has exactly their whole-number sum as its value: no addition has rounded. That each number summed is the
-- value of its base size is `size_exact` of float_laws. Assumes nothing.
use mathlib.Core.Path.{◌≡◌, refl}
use mathlib.Core.Bool.{false}
use mathlib.Core.List.{List, [], ◌∷◌, map}
use Prim.Native.Nat.{◌≤◌}
use lib.ListN.{length, length-map}
use lib.Ieee.{Float}
use lib.Ieee.Exact.{HasValue}
use Rattle.laws.specs.Lists.{All}
use Rattle.float_laws.specs.Numbers.{minus_zero, most_tracks}
use Rattle.float_laws.specs.Whole.{WholeSize, whole_sum}
use Rattle.float_laws.proofs.Whole.{sum-of-sizes-exact}
use Rattle.float_track.specs.Track.{base_size, used_space}

pub used-space-exact : (row : List Float) (rows : List (List Float)) → length (row ∷ rows) ≤ most_tracks → All WholeSize (map base_size (row ∷ rows))
    → HasValue (used_space (row ∷ rows)) false (whole_sum (map base_size (row ∷ rows))) 1
used-space-exact row rows few sizes =
    sum-of-sizes-exact (base_size row) (map base_size rows) (rw length-map few) sizes

-- without tracks it is -0.0
pub used-space-of-none : used_space [] ≡ minus_zero
used-space-of-none = refl
