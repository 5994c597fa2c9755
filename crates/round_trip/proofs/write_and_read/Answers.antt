-- `write_and_read`: what writing left is read back (`Carries`); the rows have the lengths of their types. Assumes nothing.
use Rattle.std.proofs.Common.{refl, sym}
use lib.Seq.{length-take-le}
use Rattle.rows.specs.Shapes.{width}
use Rattle.sheet.proofs.Told.{bytes-of-written}
use Rattle.round_trip.proofs.Carries.{carry-refused, carry-read}
use Rattle.round_trip.proofs.write_and_read.Goals as goal

pub returns-in_err-length : goal.returns-in_err-length
returns-in_err-length c = carry-refused _ _ _ _ _ _ c.write.ensures _ c.in_err-length.was _ c.from_residual.ensures.1

pub slice_bounds-read-end : goal.slice_bounds-read-end
slice_bounds-read-end c = (bytes-of-written _ _ _ _ c.write.ensures _ c.in_ok-length.was).within

pub slice_bounds-read-end-2 : goal.slice_bounds-read-end-2
slice_bounds-read-end-2 c = sym (length-take-le _ _ (bytes-of-written _ _ _ _ c.write.ensures _ c.in_ok-length.was).within)

pub returns : goal.returns
unfolding width
returns c =
    carry-read _ _ _ _ _ _ c.write.ensures
    (record { of_space = refl; of_tracks = c.told-tracks; of_items = c.told-items }) _ (bytes-of-written _ _ _ _ c.write.ensures _ c.in_ok-length.was) _ c.read.ensures
