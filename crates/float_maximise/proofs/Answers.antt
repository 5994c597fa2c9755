-- What maximising answers, by the free space. Assumes nothing.
use mathlib.Core.Path.{◌≡◌, sym, ap, ◌∙◌}
use mathlib.Core.Bool.{true, false}
use mathlib.Core.List.{List, map}
use lib.Ieee as Ieee
use lib.Ieee.{Float}
use Rattle.float_laws.specs.Numbers.{zero32, infinity}
use Rattle.float_track.specs.declared.space.AvailableSpace.{AvailableSpace}
use Rattle.float_track.specs.Space.{free_space}
use Rattle.float_track.specs.Track.{used_space}
use Rattle.float_maximise.specs.Maximise.{to_limit, with_increase, filled_up, maximised}

module _ (space : AvailableSpace) (fits : List Float) (rows : List (List Float)) (used free : Float) (sum : used ≡ used_space rows) (left : free ≡ free_space space used) where
  pub maximised-infinite : (out : List (List Float)) → Ieee.eq free infinity ≡ true → out ≡ map to_limit rows → out ≡ maximised space fits rows
  maximised-infinite out endless e = rw (sym sum, sym left, endless) e

  pub maximised-filled : (filled out : List (List Float)) → Ieee.eq free infinity ≡ false → Ieee.lt zero32 free ≡ true
      → filled ≡ filled_up free fits rows → out ≡ map with_increase filled → out ≡ maximised space fits rows
  maximised-filled filled out bounded above f e = rw (sym sum, sym left, bounded, above) (e ∙ ap (map with_increase) f)

  pub maximised-none : Ieee.eq free infinity ≡ false → Ieee.lt zero32 free ≡ false → rows ≡ maximised space fits rows
  maximised-none bounded none = rw (sym sum, sym left, bounded, none)
