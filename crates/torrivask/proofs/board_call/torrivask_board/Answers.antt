-- `torrivask_board`: what the board told, the free space where there is one, or its refusal. Assumes nothing.
use Rattle.board.proofs.Tracks.{tracks-few}
use borrow.Author.Rules.{rules}
use Rattle.torrivask.proofs.board_call.torrivask_board.Goals as goal

pub overflow_cast-tracks : goal.overflow_cast-tracks
overflow_cast-tracks c =
    let few = tracks-few c.args.sheet.now c.args.sizes.now c.board.result _ c.in-Ok.board c.board.ensures.0 c.in-Ok.is in
    search rules
