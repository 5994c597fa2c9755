-- A space's row is looked through part by part. Assumes nothing.
use mathlib.Core.Path.{◌∙◌}
use Rattle.records.specs.Rule.{constraint_tags, given_tags}
use Rattle.records.proofs.Looks.{found-first, next-of-fine}
use Rattle.records.proofs.TagUses.{tagged-fault-of-use}
use Rattle.rows.specs.Shapes.{width}
use Rattle.rows.proofs.RowFaults.{faults-of-space}
use Rattle.rows.proofs.space.SpaceRowRecordRow.fault.Goals as goal

pub returns-in_err-fault : goal.returns-in_err-fault
unfolding width
returns-in_err-fault c =
    let long = c.well_formed.0.1.0.1 in
    (found-first _ _ (tagged-fault-of-use constraint_tags _ _ _ _ _ c.in_err-fault.ensures c.constraint.ensures) c.from_residual.ensures.1 _ ∙ faults-of-space c.args.self c.args.at long, long)

pub returns-in_err-fault-2 : goal.returns-in_err-fault-2
unfolding width
returns-in_err-fault-2 c =
    let long = c.well_formed.0.1.0.1 in (
      next-of-fine (tagged-fault-of-use constraint_tags _ _ _ _ _ c.in_ok-fault.ensures c.constraint.ensures)
          (found-first _ _ (tagged-fault-of-use given_tags _ _ _ _ _ c.in_err-fault-2.ensures c.given.ensures) c.from_residual-in_err-fault-2.ensures.1 _)
          ∙ faults-of-space c.args.self c.args.at long,
      long,
    )

pub returns-in_err-stretch_fault : goal.returns-in_err-stretch_fault
unfolding width
returns-in_err-stretch_fault c =
    let long = c.well_formed.0.1.0.1 in (
      next-of-fine (tagged-fault-of-use constraint_tags _ _ _ _ _ c.in_ok-fault.ensures c.constraint.ensures)
          (next-of-fine (tagged-fault-of-use given_tags _ _ _ _ _ c.in_ok-fault-2.ensures c.given.ensures) (found-first _ _ c.in_err-stretch_fault.ensures c.from_residual-in_err-stretch_fault.ensures.1 _))
          ∙ faults-of-space c.args.self c.args.at long,
      long,
    )

pub returns : goal.returns
unfolding width
returns c =
    let long = c.well_formed.0.1.0.1 in (
      next-of-fine (tagged-fault-of-use constraint_tags _ _ _ _ _ c.in_ok-fault.ensures c.constraint.ensures)
          (next-of-fine (tagged-fault-of-use given_tags _ _ _ _ _ c.in_ok-fault-2.ensures c.given.ensures) (next-of-fine c.in_ok-stretch_fault.ensures c.axis_fault.ensures))
          ∙ faults-of-space c.args.self c.args.at long,
      long,
    )
