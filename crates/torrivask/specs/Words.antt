-- C's numbers in the words of the core: one that is not listed is none of them. Assumes nothing.
use Rattle.std.specs.Prelude.{ℕ, Bool, true, false, cond, Option, Some, None, eqb, Float}
use Rattle.float_track.specs.declared.space.AvailableSpace.{AvailableSpace}
use Rattle.float_track.specs.declared.space.AvailableSpace.TheVariants.{Definite, MinContent, MaxContent}
use Rattle.float_gutters.specs.declared.AlignContent.{AlignContent}
use Rattle.float_gutters.specs.declared.AlignContent.TheVariants.{Normal, Start, End, FlexStart, FlexEnd, Center, Stretch, SpaceBetween, SpaceEvenly, SpaceAround}

-- 1 is definite, 2 min-content, 3 max-content.
abbrev pub space_as : ℕ → Float → Option AvailableSpace
space_as kind size =
    cond (eqb kind 1) (Some (Definite size))
    (cond (eqb kind 2) (Some MinContent)
    (cond (eqb kind 3) (Some MaxContent) None))

abbrev pub size_as : Bool → Float → Option Float
size_as true size = Some size
size_as false size = None

-- The keywords by their place in the Rust's order, from 0.
abbrev pub alignment_as : ℕ → Option AlignContent
alignment_as word =
    cond (eqb word 0) (Some Normal)
    (cond (eqb word 1) (Some Start)
    (cond (eqb word 2) (Some End)
    (cond (eqb word 3) (Some FlexStart)
    (cond (eqb word 4) (Some FlexEnd)
    (cond (eqb word 5) (Some Center)
    (cond (eqb word 6) (Some Stretch)
    (cond (eqb word 7) (Some SpaceBetween)
    (cond (eqb word 8) (Some SpaceEvenly)
    (cond (eqb word 9) (Some SpaceAround) None)))))))))
