-- What stretching answers, by the count of auto tracks and the free space. Assumes nothing.
use mathlib.Core.Path.{◌≡◌, sym}
use mathlib.Core.Bool.{Bool, true, false}
use mathlib.Core.List.{List}
use Prim.Native.Nat.{ℕ, ◌≤◌, ◌<◌}
use lib.Ieee as Ieee
use lib.Ieee.{Float}
use borrow.Author.Tests.{lt-ltb, le-ltb}
use Rattle.laws.specs.Walk.{store_step, store-end}
use Rattle.laws.specs.Zips.{zip-next, zip-nil-right}
use Rattle.laws.specs.Marks.{number}
use Rattle.float_laws.specs.Numbers.{zero32}
use Rattle.float_track.specs.declared.space.AvailableSpace.{AvailableSpace}
use Rattle.std.specs.Prelude.{Option}
use Rattle.float_track.specs.Space.{stretch_space}
use Rattle.float_track.specs.Track.{used_space}
use Rattle.float_stretch.specs.Stretch.{grown_by, extra_of, stretched}

module _ (minimum : Option Float) (space : AvailableSpace) (autos : List Bool) (rows : List (List Float)) (count : ℕ) (counted : count ≡ number autos) where
  pub stretched-none : count ≤ 0 → rows ≡ stretched minimum space autos rows
  stretched-none none = rw (sym counted, le-ltb 0 count none)

  module _ (used free : Float) (some : 0 < count) (sum : used ≡ used_space rows) (left : free ≡ stretch_space space minimum used) where
    pub stretched-full : Ieee.lt zero32 free ≡ false → rows ≡ stretched minimum space autos rows
    stretched-full full = rw (sym counted, lt-ltb 0 count some, sym sum, sym left, full)

    pub stretched-shared : (out : List (List Float)) → Ieee.lt zero32 free ≡ true → out ≡ grown_by (extra_of free count) autos rows
        → out ≡ stretched minimum space autos rows
    stretched-shared out above e = rw (sym counted, lt-ltb 0 count some, sym sum, sym left, above) e

-- for the check of `grow_by`
pub ruleset by_turn = (store_step, store-end, zip-next, zip-nil-right)
