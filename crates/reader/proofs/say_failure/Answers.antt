-- `say_failure`: what was printed stands within its bytes.
use Rattle.std.proofs.Common.{sym}
use Rattle.std.proofs.lemmas.List.{length-take-le}
use Rattle.printed.proofs.Within.{message-within}
use Rattle.reader.proofs.say_failure.Goals as goal

pub slice_bounds-text-end : goal.slice_bounds-text-end
slice_bounds-text-end c = message-within c.print_message.result c.in-Some.length c.print_message.new.into c.in-Some.is _ _ _ c.print_message.ensures

pub slice_bounds-say_reason-end : goal.slice_bounds-say_reason-end
slice_bounds-say_reason-end c =
    sym
    (length-take-le _ _ (message-within c.print_message.result c.in-Some.length c.print_message.new.into c.in-Some.is _ _ _ c.print_message.ensures))
