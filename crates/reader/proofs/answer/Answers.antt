-- `answer`: what was printed stands within its bytes.
use Rattle.std.proofs.Common.{sym}
use Rattle.std.proofs.lemmas.List.{length-take-le}
use Rattle.printed.proofs.Within.{sheet-within}
use Rattle.reader.proofs.answer.Goals as goal

pub slice_bounds-text-end : goal.slice_bounds-text-end
slice_bounds-text-end c = sheet-within c.print_sheet.result c.in-Some.length c.print_sheet.new.into c.in-Some.is _ _ c.print_sheet.ensures

pub slice_bounds-write_out-end : goal.slice_bounds-write_out-end
slice_bounds-write_out-end c =
    sym
    (length-take-le _ _ (sheet-within c.print_sheet.result c.in-Some.length c.print_sheet.new.into c.in-Some.is _ _ c.print_sheet.ensures))
