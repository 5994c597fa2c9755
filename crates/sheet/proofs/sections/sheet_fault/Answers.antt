-- `sheet_fault` asks for the end of sections that were passed. Assumes nothing.
use Rattle.std.proofs.Common.{sym}
use Rattle.sheet.proofs.Accepted.{accepted-from}
use Rattle.sheet.proofs.sections.sheet_fault.Goals as goal

pub counted_end-requires : goal.counted_end-requires
counted_end-requires c = let ok = accepted-from c.args.bytes.now 0 (sym c.in_ok-fault_from.ensures) in (ok.tracks.count.whole, ok.items.count.whole)
