-- The gutter adjustment of an alignment: the Rust's float steps in the Rust's order. Assumes nothing.
use Rattle.std.specs.Prelude.{Bool, cond, Option, Some, None, List, ◌⊎◌, ℕ, ◌+◌, ◌-◌, ◌*◌, ◌/◌, ◌≤◌, leb, eqb, pos, length, Float}
use Rattle.std.specs.Float.Ieee as Ieee
use Rattle.std.specs.Float.{binary32}
use Rattle.laws.specs.Lists.{every}
use Rattle.float_laws.specs.Numbers.{zero32, most_tracks}
use Rattle.float_laws.specs.Std.{max_of}
use Rattle.float_laws.specs.Sum.{sum_of}
use Rattle.float_gutters.specs.declared.AlignContent.{AlignContent}
use Rattle.float_gutters.specs.declared.AlignContent.TheVariants.{Normal, Start, End, FlexStart, FlexEnd, Center, Stretch, SpaceBetween, SpaceEvenly, SpaceAround}

-- Weights outer/inner: between 0/1, around 1/2, evenly 1/1; an inner weight of 0 gives 0.0.
abbrev pub outer_weight : AlignContent → ℕ
outer_weight Normal = 0
outer_weight Start = 1
outer_weight End = 1
outer_weight FlexStart = 1
outer_weight FlexEnd = 1
outer_weight Center = 1
outer_weight Stretch = 0
outer_weight SpaceBetween = 0
outer_weight SpaceEvenly = 1
outer_weight SpaceAround = 1

abbrev pub inner_weight : AlignContent → ℕ
inner_weight Normal = 0
inner_weight Start = 0
inner_weight End = 0
inner_weight FlexStart = 0
inner_weight FlexEnd = 0
inner_weight Center = 0
inner_weight Stretch = 0
inner_weight SpaceBetween = 1
inner_weight SpaceEvenly = 1
inner_weight SpaceAround = 2

abbrev pub itself : Bool → Bool
itself b = b

-- What the tracks leave free of the inner size, at least 0.0: nothing where an estimate is absent.
abbrev pub free_of : Float → List Bool → List Float → Float
free_of size known estimates =
    cond (every itself known) (max_of zero32 (Ieee.sub binary32 size (sum_of estimates))) zero32

abbrev pub whole32 : ℕ → Float
whole32 n = Ieee.of_int binary32 (pos n)

-- half of what is left of the count once 3 are taken off, by the inner weight, and two outer weights
abbrev pub weighted_count : AlignContent → ℕ → ℕ
weighted_count alignment count = (count - 3) / 2 * inner_weight alignment + 2 * outer_weight alignment

abbrev pub adjustment : AlignContent → Float → ℕ → Float
adjustment alignment free count =
    Ieee.mul binary32 (Ieee.div binary32 free (whole32 (weighted_count alignment count))) (whole32 (inner_weight alignment))

abbrev pub adjustment_of : AlignContent → Option Float → List Bool → List Float → Float
adjustment_of alignment (Some size) known estimates = adjustment alignment (free_of size known estimates) (length known)
adjustment_of alignment None known estimates = zero32

abbrev pub gutter_adjustment : AlignContent → Option Float → List Bool → List Float → Float
gutter_adjustment alignment inner known estimates =
    cond (leb (length known) 1) zero32
    (cond (eqb (inner_weight alignment) 0) zero32 (adjustment_of alignment inner known estimates))

-- a count that 12 and 14 leave: none, one, or enough for the 3 that are taken off
pub record GutterCount (count : ℕ) : Type 0 where
  pub enough : (count ≤ 1) ⊎ (3 ≤ count)
  pub few : count ≤ most_tracks
