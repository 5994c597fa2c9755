-- `flush_planned_growth_limit_increases`: where its track is not refused, the inputs are met. Assumes nothing.
use mathlib.Core.Path.{subst}
use Rattle.laws.specs.Lists.{All}
use Rattle.float_laws.specs.Numbers.{IsF32}
use Rattle.floats.proofs.Rust.{flush-inputs}
use Rattle.floats.proofs.flushing.flush_planned_growth_limit_increases.Goals as goal

pub returns-clause-track_inputs : goal.returns-clause-track_inputs
returns-clause-track_inputs c = flush-inputs c.args.track (subst (All IsF32) c.row.ensures c.in_ok-track_fault.ensures.all)
