-- The numbers of a case that stand for one of a few, in the words of the core. Assumes nothing.
use Rattle.std.specs.Prelude.{ℕ, Bool, true, false, Option, Some, None, List, [], ◌∷◌, get_or, Float}
use Rattle.float_track.specs.declared.space.AvailableSpace.{AvailableSpace}
use Rattle.float_track.specs.declared.space.AvailableSpace.TheVariants.{Definite, MinContent, MaxContent}
use Rattle.float_gutters.specs.declared.AlignContent.{AlignContent}
use Rattle.float_gutters.specs.declared.AlignContent.TheVariants.{Normal, Start, End, FlexStart, FlexEnd, Center, Stretch, SpaceBetween, SpaceEvenly, SpaceAround}

abbrev pub size_as : Bool → Float → Option Float
size_as true size = Some size
size_as false size = None

-- 0 is definite, 1 min-content, any other max-content
abbrev pub first_spaces : Float → List AvailableSpace
first_spaces size = Definite size ∷ MinContent ∷ []

abbrev pub space_as : ℕ → Float → AvailableSpace
space_as number size = get_or (first_spaces size) number MaxContent

-- in the Rust's order, from 0; any other is the last
abbrev pub first_alignments : List AlignContent
first_alignments = Normal ∷ Start ∷ End ∷ FlexStart ∷ FlexEnd ∷ Center ∷ Stretch ∷ SpaceBetween ∷ SpaceEvenly ∷ []

abbrev pub alignment_as : ℕ → AlignContent
alignment_as number = get_or first_alignments number SpaceAround
