-- `put_rows` puts the records of the rows one after another. The loop's invariant: what is still to put, put into the bytes as
-- they are, makes all of it. Assumes nothing.
use Rattle.std.proofs.Common.{◌≤◌, ◌∙◌, length, arith}
use Rattle.std.proofs.Math.Nat.{mul-le-mul_right}
use Rattle.sheet.specs.Rule.{record_size}
use Rattle.sheet.proofs.RowWalks.{putting-fine, putting-next, putting-end, within-rows, past-rows, row-in}
use Rattle.sheet.proofs.writing.put_rows.Goals as goal

pub put-requires : goal.put-requires
put-requires g c =
    let row = g.R.RecordRow in
    let rows = c.args.rows.now in
    let more = c.loop-row-test.true in
    let fits = mul-le-mul_right (record_size row.parts) more in
    (omega (arith, fits), putting-fine _ _ _ _ _ _ _ c.loop-row.invariant.1 (within-rows row.numbers rows _ more) _ (row-in row.numbers rows _ _ more c.row-item.is))

pub loop-row-preserved : goal.loop-row-preserved
loop-row-preserved g c =
    let row = g.R.RecordRow in
    let rows = c.args.rows.now in
    let more = c.loop-row-test.true in
    let fits = mul-le-mul_right (record_size row.parts) more in
    let room : c.loop-row.at ≤ length c.loop-row.bytes = omega (arith, fits) in
    rw (c.SIZE-at.ensures ∙ g.met.R.RecordRow.size_is) (
      omega arith,
      putting-next _ _ _ _ _ _ _ c.loop-row.invariant.1 (within-rows row.numbers rows _ more) _ (row-in row.numbers rows _ _ more c.row-item.is) _ room c.put.ensures.1 c.put.ensures.0,
    )

pub returns : goal.returns
returns g c = putting-end _ _ _ _ _ _ _ c.loop-row.invariant.1 (past-rows g.R.RecordRow.numbers c.args.rows.now _ c.loop-row-test.false)
