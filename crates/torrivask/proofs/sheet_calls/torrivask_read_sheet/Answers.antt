-- `torrivask_read_sheet`: the space and the counts that reading told, or its refusal. Assumes nothing.
use Rattle.sheet.proofs.ReadCall.{counts-few}
use borrow.Author.Rules.{rules}
use Rattle.torrivask.proofs.sheet_calls.torrivask_read_sheet.Goals as goal

pub overflow_cast-track_count : goal.overflow_cast-track_count
overflow_cast-track_count c =
    let few = counts-few c.args.sheet.now c.args.tracks.now c.args.items.now c.read.result _ _ _ c.read.ensures c.in-Ok.is in
    let track_count = few.0 in
    search rules

pub overflow_cast-item_count : goal.overflow_cast-item_count
overflow_cast-item_count c =
    let few = counts-few c.args.sheet.now c.args.tracks.now c.args.items.now c.read.result _ _ _ c.read.ensures c.in-Ok.is in
    let item_count = few.1 in
    search rules
