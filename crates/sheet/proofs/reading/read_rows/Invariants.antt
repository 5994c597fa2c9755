-- The loop of `read_rows`: so many records have been read, and the next stands where the code looks.
use Rattle.std.proofs.Common.{length, map}
use Rattle.sheet.proofs.RowLoads.{Loading}
use Rattle.sheet.proofs.reading.read_rows.Given as goal

abbrev pub invariant-loop-row : goal.invariant-loop-row
invariant-loop-row g l = let row = g.R.RecordRow in Loading row.parts l.bytes l.from (length l.initial.rows) (map row.numbers l.rows) l.at l.row-index
