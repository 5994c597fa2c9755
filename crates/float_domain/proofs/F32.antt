-- Floats that a function is handed are f32, as their types say: in a row by value, in a size or space that may have none, and in a slice at every
-- index. Assumes nothing.
use mathlib.Core.Path.{◌≡◌, sym, subst}
use mathlib.Core.Bool.{true}
use mathlib.Core.List.{List, [], ◌∷◌}
use Prim.Native.Nat.{ℕ, ◌<◌}
use lib.Dec.{T}
use lib.ListN.{length, get_or}
use lib.Ieee.{Float, nan, binary32, fits}
use mir.Val.{Val}
use denote.Array.{each}
use denote.Enum.Declared.{row}
use denote.Floats.{FloatOf}
use denote.Laws.{Is}
use denote.Shadow.{shadow}
use Rattle.std.specs.Prelude.{Option, Some, None}
use Rattle.std.specs.contracts.option.Option as option
use Rattle.laws.specs.Lists.{All}
use Rattle.laws.specs.Alls.{all-of-at}
use Rattle.float_laws.specs.Numbers.{IsF32}
use Rattle.float_track.specs.declared.space.AvailableSpace.{AvailableSpace}
use Rattle.float_track.specs.declared.space.AvailableSpace.TheVariants.{Definite, MinContent, MaxContent}
use Rattle.float_track.specs.contracts.space.AvailableSpace as space

pub f32-of-fits : (x : Float) → fits binary32 x ≡ true → IsF32 x
f32-of-fits x e = subst T (sym e) tt

-- an array's elements
pub f32_of_elements : (xs : List Float) (us : List Val) → shadow (each Float (FloatOf binary32).own_val xs us) → All IsF32 xs
unfolding All
f32_of_elements [] us h = tt
f32_of_elements (x ∷ xs) [] h = absurd h
f32_of_elements (x ∷ xs) (u ∷ us) h = (f32-of-fits x h.0.1, f32_of_elements xs us h.1)

-- what a size or a space holds, if anything
abbrev pub SizeF32 : Option Float → Type 0
SizeF32 (Some x) = IsF32 x
SizeF32 None = Unit {0}

pub f32-of-size : (s : Option Float) (vs : List Val) → Is (row (option.the_type (FloatOf binary32))) s vs → SizeF32 s
f32-of-size (Some x) vs h = f32-of-fits x h.1.1.1.1.0.1
f32-of-size None vs h = tt

abbrev pub SpaceF32 : AvailableSpace → Type 0
SpaceF32 (Definite x) = IsF32 x
SpaceF32 MinContent = Unit {0}
SpaceF32 MaxContent = Unit {0}

pub f32-of-space : (s : AvailableSpace) (vs : List Val) → Is (row space.the_type) s vs → SpaceF32 s
f32-of-space (Definite x) vs h = f32-of-fits x h.1.1.1.1.0.1
f32-of-space MinContent vs h = tt
f32-of-space MaxContent vs h = tt

-- a slice, of which every index is known
pub f32-of-slice : (xs : List Float) → ((i : ℕ) → IsF32 (get_or xs i nan)) → All IsF32 xs
f32-of-slice xs each-is = all-of-at IsF32 xs nan (λ (i : ℕ) (l : i < length xs). each-is i)
