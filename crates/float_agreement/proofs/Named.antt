-- The numbers that the routines name, as f32 values with a clear sign bit. Assumes nothing.
use mathlib.Core.Path.{◌≡◌, refl}
use mathlib.Core.Bool.{true}
use lib.Dec.{T}
use lib.Ieee.{binary32, lt, of_bits}
use lib.Ieee.Bits.{of_bits-fits}
use lib.Ieee.Scale.{finite}
use Rattle.float_laws.specs.Numbers.{zero32, one32, infinity}
use Rattle.float_laws.specs.Std.{IsClear}

pub one-clear : IsClear one32
unfolding of_bits
one-clear = (of_bits-fits binary32 0x3f80_0000, refl)

pub one-finite : T (finite one32)
unfolding of_bits
one-finite = tt

pub one-above : lt zero32 one32 ≡ true
unfolding lt of_bits
one-above = refl

pub infinity-clear : IsClear infinity
unfolding of_bits
infinity-clear = (of_bits-fits binary32 0x7f80_0000, refl)
