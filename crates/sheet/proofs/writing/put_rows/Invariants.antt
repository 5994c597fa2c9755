-- The loop of `put_rows`: where the next row's record stands, and that what is still to put makes all of it.
use Rattle.std.proofs.Common.{◌≡◌, ◌+◌, ◌*◌, map}
use Rattle.sheet.specs.Rule.{record_size}
use Rattle.sheet.proofs.RowWalks.{Putting}
use Rattle.sheet.proofs.writing.put_rows.Given as goal

abbrev pub invariant-loop-row : goal.invariant-loop-row
invariant-loop-row g l =
    let row = g.R.RecordRow in
    (l.at ≡ l.from + l.row-index * record_size row.parts) × Putting row.parts (map row.numbers l.rows) l.initial.bytes l.from l.row-index l.at l.bytes
