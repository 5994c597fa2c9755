-- The free space that an available space leaves, and that which stretching reads. Assumes nothing.
use Rattle.std.specs.Float.Ieee as Ieee
use Rattle.std.specs.Prelude.{Option, Some, None, Float}
use Rattle.std.specs.Float.{binary32}
use Rattle.float_laws.specs.Numbers.{zero32, infinity}
use Rattle.float_track.specs.declared.space.AvailableSpace.{AvailableSpace}
use Rattle.float_track.specs.declared.space.AvailableSpace.TheVariants.{Definite, MinContent, MaxContent}

-- Definite minus used, 0 for min-content, infinite for max-content.
abbrev pub free_space : AvailableSpace → Float → Float
free_space (Definite space) used = Ieee.sub binary32 space used
free_space MinContent used = zero32
free_space MaxContent used = infinity

-- the size minus used, and 0.0 where there is no size
abbrev pub left_of : Option Float → Float → Float
left_of (Some size) used = Ieee.sub binary32 size used
left_of None used = zero32

-- The minimum size stands in when space is indefinite.
abbrev pub stretch_space : AvailableSpace → Option Float → Float → Float
stretch_space (Definite space) min_size used = free_space (Definite space) used
stretch_space MinContent min_size used = left_of min_size used
stretch_space MaxContent min_size used = left_of min_size used
