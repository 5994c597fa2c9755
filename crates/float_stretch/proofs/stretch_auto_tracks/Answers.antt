-- `stretch_auto_tracks`: no auto track, no free space, or the free space shared. Assumes nothing.
use Prim.Native.Nat.{◌^◌}
use native.Mathlib.Omega.{arith}
use lib.Dec.{le→leb}
use lib.Ieee.{in_float}
use Rattle.float_stretch.proofs.Count.{number-le-length}
use Rattle.float_stretch.proofs.stretch_auto_tracks.Goals as goal

pub int_to_float-count : goal.int_to_float-count
unfolding in_float
int_to_float-count c =
    let few = number-le-length c.args.autos.now in
    le→leb c.auto_count-count.result (2 ^ 24) (omega arith)
