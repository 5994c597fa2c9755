-- What each place takes part with: a clear and finite size, a clear limit, a finite proportion above 0.0. Assumes nothing.
use mathlib.Core.Path.{◌≡◌}
use mathlib.Core.Bool.{true}
use Prim.Native.Nat.{ℕ, ◌<◌}
use lib.Dec.{T}
use lib.ListN.{get_or}
use lib.Ieee.{nan, lt}
use lib.Ieee.Scale.{finite}
use Rattle.float_laws.specs.Numbers.{zero32}
use Rattle.float_laws.specs.Std.{IsClear}
use Rattle.float_distribution.specs.Distribution.{Lists}

pub record ClearPart (l : Lists) (i : ℕ) : Type 0 where
  pub size-clear : IsClear (get_or l.sizes i nan)
  pub size-finite : T (finite (get_or l.sizes i nan))
  pub limit-clear : IsClear (get_or l.limits i nan)
  pub proportion-clear : IsClear (get_or l.proportions i nan)
  pub proportion-finite : T (finite (get_or l.proportions i nan))
  pub proportion-above : lt zero32 (get_or l.proportions i nan) ≡ true

abbrev pub ClearParts : Lists → ℕ → Type 0
ClearParts l n = (i : ℕ) → i < n → ClearPart l i
