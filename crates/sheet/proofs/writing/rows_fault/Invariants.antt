-- The loop of `rows_fault`: where the next row's record stands, and that the rows still to look at have the fault that all have.
use Rattle.std.proofs.Common.{◌≡◌, ◌+◌, ◌*◌, map}
use Rattle.rows.specs.Shapes.{width}
use Rattle.sheet.specs.Rule.{record_size}
use Rattle.sheet.proofs.RowWalks.{Searched}
use Rattle.sheet.proofs.writing.rows_fault.Given as goal

abbrev pub invariant-loop-row : goal.invariant-loop-row
invariant-loop-row g l =
    let row = g.R.RecordRow in
    (l.at ≡ l.from + l.row-index * record_size row.parts) × Searched (width row.parts) row.parts (map row.numbers l.rows) l.from l.row-index l.at
