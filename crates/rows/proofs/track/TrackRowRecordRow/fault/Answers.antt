-- A track's row is looked through part by part. Assumes nothing.
use mathlib.Core.Path.{◌∙◌}
use Rattle.records.specs.Rule.{minimum_tags, maximum_tags}
use Rattle.records.proofs.Looks.{found-first, next-of-fine}
use Rattle.records.proofs.TagUses.{tagged-fault-of-use}
use Rattle.rows.specs.Shapes.{width}
use Rattle.rows.proofs.RowFaults.{faults-of-track}
use Rattle.rows.proofs.track.TrackRowRecordRow.fault.Goals as goal

pub returns-in_err-fault : goal.returns-in_err-fault
unfolding width
returns-in_err-fault c =
    let long = c.well_formed.0.1.0.1 in
    (found-first _ _ (tagged-fault-of-use minimum_tags _ _ _ _ _ c.in_err-fault.ensures c.minimum.ensures) c.from_residual.ensures.1 _ ∙ faults-of-track c.args.self c.args.at long, long)

pub returns : goal.returns
unfolding width
returns c =
    let long = c.well_formed.0.1.0.1 in (
      next-of-fine (tagged-fault-of-use minimum_tags _ _ _ _ _ c.in_ok-fault.ensures c.minimum.ensures) (tagged-fault-of-use maximum_tags _ _ _ _ _ c.fault-2.ensures c.maximum.ensures)
          ∙ faults-of-track c.args.self c.args.at long,
      long,
    )
