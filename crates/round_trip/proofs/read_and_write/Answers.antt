-- `read_and_write`: what reading told is written back (`Copies`). Assumes nothing.
use Rattle.std.proofs.Common.{sym}
use lib.Seq.{length-take-le}
use Rattle.sheet.proofs.Told.{sheet-of-read}
use Rattle.round_trip.proofs.Copies.{copy-refused, copy_written}
use Rattle.round_trip.proofs.read_and_write.Goals as goal

pub returns-in_err-read : goal.returns-in_err-read
returns-in_err-read c = copy-refused _ _ _ _ _ _ _ c.read.ensures _ c.in_err-read.was _ c.from_residual.ensures.1

pub slice_bounds-write-end : goal.slice_bounds-write-end
slice_bounds-write-end c = (sheet-of-read _ _ _ _ _ _ c.read.ensures _ c.in_ok-read.was).track_rows

pub slice_bounds-write-end-2 : goal.slice_bounds-write-end-2
slice_bounds-write-end-2 c = sym (length-take-le _ _ (sheet-of-read _ _ _ _ _ _ c.read.ensures _ c.in_ok-read.was).track_rows)

pub slice_bounds-write-end-3 : goal.slice_bounds-write-end-3
slice_bounds-write-end-3 c = (sheet-of-read _ _ _ _ _ _ c.read.ensures _ c.in_ok-read.was).item_rows

pub slice_bounds-write-end-4 : goal.slice_bounds-write-end-4
slice_bounds-write-end-4 c = sym (length-take-le _ _ (sheet-of-read _ _ _ _ _ _ c.read.ensures _ c.in_ok-read.was).item_rows)

pub returns : goal.returns
returns c = copy_written _ _ _ _ _ _ _ c.read.ensures (λ i. (c.type_inv.bytes i).fits) _ _ _ (sheet-of-read _ _ _ _ _ _ c.read.ensures _ c.in_ok-read.was) _ c.write.ensures
