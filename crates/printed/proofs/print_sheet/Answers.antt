-- `print_sheet`: too few bytes, or the text of the board. Assumes nothing.
use native.Mathlib.Omega.{arith}
use Rattle.printed.proofs.Call.{tracks-within, call-no-room, call-printed}
use Rattle.printed.proofs.print_sheet.Goals as goal

pub returns-then-into-lt-MOST_TEXT : goal.returns-then-into-lt-MOST_TEXT
returns-then-into-lt-MOST_TEXT c = call-no-room c.args.bytes.now c.args.into.now c.if-into-lt-MOST_TEXT.true

pub put_answer-requires : goal.put_answer-requires
put_answer-requires c = (tracks-within c.args.bytes.now c.board-answer.result _ c.board-answer.ensures.0 (omega arith), omega (arith, c.if-into-lt-MOST_TEXT.false))

pub returns : goal.returns
returns c = call-printed c.args.bytes.now c.board-answer.result _ c.board-answer.ensures.0 c.args.into.now _ _ _ c.if-into-lt-MOST_TEXT.false c.put_answer.ensures
