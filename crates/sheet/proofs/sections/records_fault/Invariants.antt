-- The loop of `records_fault`: the records that are still to look at have the fault that all have.
use Rattle.std.proofs.Common.{◌≡◌, ◌-◌}
use Rattle.sheet.specs.Rule.{records_fault}
use Rattle.sheet.proofs.sections.records_fault.Given as goal

abbrev pub invariant-loop : goal.invariant-loop
invariant-loop g l = let parts = g.R.RecordRow.parts in records_fault parts l.bytes (l.count - l.counter) l.at ≡ records_fault parts l.bytes l.count l.from
