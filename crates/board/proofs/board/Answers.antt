-- `board`: a small store where the sheet says few, else a store for any sheet. Assumes nothing.
use Rattle.board.proofs.ReadBoard.{large-rows}
use Rattle.board.proofs.board.Goals as goal

pub board_in-requires-2-clause-rows : goal.board_in-requires-2-clause-rows
board_in-requires-2-clause-rows c = λ ts is lt li. large-rows c.args.bytes.now ts is lt li
