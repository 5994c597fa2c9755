-- `write_row`: a fault of the space's row, or what writing told. Assumes nothing.
use borrow.Author.Rules.{rules}
use Rattle.records.specs.Rule.{record_size}
use Rattle.torrivask.proofs.Sheets.{space-refused, same-call}
use Rattle.torrivask.proofs.sheet_calls.write_row.Goals as goal

pub fault-requires : goal.fault-requires
unfolding record_size
fault-requires c = search rules

pub returns-in_err-fault : goal.returns-in_err-fault
returns-in_err-fault c = space-refused c.args.space c.args.tracks.now c.args.items.now c.args.bytes.now c.in_err-fault.ensures.1 _ c.in_err-fault.ensures.0 _ c.from_residual.ensures.1

pub returns : goal.returns
returns c = same-call c.args.space c.args.tracks.now c.args.items.now c.args.bytes.now c.in_ok-fault.ensures.1 c.in_ok-fault.ensures.0 _ c.of_row.ensures _ _ c.write.ensures
