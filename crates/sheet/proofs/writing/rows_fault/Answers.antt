-- `rows_fault` finds the first fault of the rows. The loop's invariant: what is still to look at has the fault that all the rows have.
-- Assumes nothing.
use Rattle.std.proofs.Common.{◌∙◌, arith}
use Rattle.sheet.proofs.RowWalks.{searched-next, searched-found, searched-end, within-rows, past-rows, row-in}
use Rattle.sheet.proofs.writing.rows_fault.Goals as goal

pub returns-in_err-fault : goal.returns-in_err-fault
returns-in_err-fault g c =
    let row = g.R.RecordRow in
    let rows = c.args.rows.now in
    let more = c.loop-row-test.true in
    searched-found _ _ _ _ _ _ c.loop-row.invariant.1 (within-rows row.numbers rows _ more) _ (row-in row.numbers rows _ _ more c.row-item.is) c.in_err-fault.ensures.1 _ _ c.in_err-fault.ensures.0
    c.from_residual.ensures.1

pub loop-row-preserved : goal.loop-row-preserved
loop-row-preserved g c =
    let row = g.R.RecordRow in
    let rows = c.args.rows.now in
    let more = c.loop-row-test.true in
    rw (c.SIZE-at.ensures ∙ g.met.R.RecordRow.size_is) (
      omega arith,
      searched-next _ _ _ _ _ _ c.loop-row.invariant.1 (within-rows row.numbers rows _ more) _ (row-in row.numbers rows _ _ more c.row-item.is) c.in_ok-fault.ensures.1 c.in_ok-fault.ensures.0,
    )

pub returns : goal.returns
returns g c = searched-end _ _ _ _ _ _ c.loop-row.invariant.1 (past-rows g.R.RecordRow.numbers c.args.rows.now _ c.loop-row-test.false)
