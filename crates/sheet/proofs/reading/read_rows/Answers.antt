-- `read_rows` reads records into lent rows, one after another. Assumes nothing.
use Rattle.std.proofs.Common.{◌≡◌, ◌<◌, ◌∙◌, length, arith}
use Rattle.laws.specs.Lists.{map-set}
use Rattle.sheet.proofs.RowLoads.{loading-turn, loading-end}
use Rattle.sheet.proofs.reading.read_rows.Goals as goal

pub loop-row-preserved : goal.loop-row-preserved
loop-row-preserved g c =
    let more : c.loop-row.row-index < length c.args.rows.now = omega arith in
    rw (c.SIZE-at.ensures ∙ g.met.R.RecordRow.size_is, map-set g.R.RecordRow.numbers c.loop-row.rows c.loop-row.row-index c.read.result)
    (loading-turn _ _ _ _ _ _ _ c.loop-row.invariant more _ c.read.ensures)

pub returns : goal.returns
returns g c = let all : c.loop-row.row-index ≡ length c.args.rows.now = omega arith in loading-end _ _ _ _ _ _ _ c.loop-row.invariant all
