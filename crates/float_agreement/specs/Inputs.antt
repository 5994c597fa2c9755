-- What a call that is not refused is known to be handed, and the theorems ask: each number is an f32 in the domain of its kind, as refusal 13 tests it,
-- and the lists have the lengths that 12 asks. Assumes nothing.
use Rattle.std.specs.Prelude.{◌≡◌, Bool, true, Option, Some, None, List, length, get_or, Float}
use Rattle.std.specs.Float.{nan}
use Rattle.laws.specs.Lists.{All}
use Rattle.float_laws.specs.Numbers.{IsF32}
use Rattle.float_domain.specs.declared.kind.Kind.{Kind}
use Rattle.float_domain.specs.declared.kind.Kind.TheVariants.{Size, Limit, Factor, Proportion}
use Rattle.float_domain.specs.Domain.{in_domain}
use Rattle.float_track.specs.declared.space.AvailableSpace.{AvailableSpace}
use Rattle.float_track.specs.declared.space.AvailableSpace.TheVariants.{Definite, MinContent, MaxContent}
use Rattle.float_distribution.specs.Distribution.{OneLength}

-- x is an f32 in the domain of its kind
abbrev pub IsOf : Kind → Float → Type 0
IsOf kind x = IsF32 x × (in_domain kind x ≡ true)

-- the numbers of a track's row
pub record TrackInputs (row : List Float) : Type 0 where
  pub base : IsOf Size (get_or row 0 nan)
  pub limit : IsOf Limit (get_or row 1 nan)
  pub base-planned : IsOf Size (get_or row 2 nan)
  pub limit-planned : IsOf Size (get_or row 3 nan)
  pub incurred : IsOf Size (get_or row 4 nan)

-- nothing is asked of an absent size, or of a space that is not definite
abbrev pub SizeInput : Option Float → Type 0
SizeInput (Some size) = IsOf Size size
SizeInput None = Unit {0}

abbrev pub SpaceInput : AvailableSpace → Type 0
SpaceInput (Definite space) = IsOf Size space
SpaceInput MinContent = Unit {0}
SpaceInput MaxContent = Unit {0}

pub record FrInputs (rows : List (List Float)) (fs : List Bool) (xs : List Float) (space : Float) : Type 0 where
  pub flexible : length fs ≡ length rows
  pub factors-length : length xs ≡ length rows
  pub tracks : All TrackInputs rows
  pub factors : All (IsOf Factor) xs
  pub filled : IsOf Size space

pub record GutterInputs (inner : Option Float) (known : List Bool) (estimates : List Float) : Type 0 where
  pub estimates-length : length estimates ≡ length known
  pub inner-size : SizeInput inner
  pub sizes : All (IsOf Size) estimates

pub record DistributionInputs (space : Float) (rows : List (List Float)) (fs : List Bool) (ps ss ls : List Float) : Type 0 where
  pub lengths : OneLength fs ps ss ls (length rows)
  pub distributed : IsOf Size space
  pub tracks : All TrackInputs rows
  pub proportions : All (IsOf Proportion) ps
  pub sizes : All (IsOf Size) ss
  pub limits : All (IsOf Limit) ls

-- of the available space nothing is asked
pub record MaximiseInputs (rows : List (List Float)) (limits : List Float) : Type 0 where
  pub limits-length : length limits ≡ length rows
  pub tracks : All TrackInputs rows
  pub fit-content : All (IsOf Limit) limits

pub record StretchInputs (rows : List (List Float)) (autos : List Bool) (minimum : Option Float) (space : AvailableSpace) : Type 0 where
  pub autos-length : length autos ≡ length rows
  pub tracks : All TrackInputs rows
  pub minimum-size : SizeInput minimum
  pub stretched-to : SpaceInput space
