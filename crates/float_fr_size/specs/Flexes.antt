-- What the definitions of a search make of the code's tracks. Assumes nothing.
use Rattle.std.specs.Prelude.{Bool, List, Float}
use Rattle.float_fr_size.specs.declared.Flexes.{Flexes}

abbrev pub over : {A : Type 0} → (List (List Float) → List Bool → List Float → A) → Flexes → A
over of ts = of ts.tracks.now ts.flexible.now ts.factors.now
