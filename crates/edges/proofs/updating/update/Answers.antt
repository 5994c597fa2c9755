-- `update` meets its contract: each refusal in its order, and the edges of the changed bases where there is none. Assumes nothing.
use Rattle.std.proofs.Common.{sym, arith}
use Rattle.std.proofs.lemmas.Result.{err_from_is_err_and}
use Rattle.edges.proofs.Changed.{own-below-next, width-below-last, update-unsorted, update-missing, update-past, update-moves, update-done}
use Rattle.edges.proofs.updating.update.Goals as goal

pub returns-then-track-last : goal.returns-then-track-last
returns-then-track-last c = update-missing c.args.edges.now c.args.track c.args.base c.in_ok-check.ensures c.if-track-last.true

pub overflow_sub-old : goal.overflow_sub-old
overflow_sub-old c = own-below-next c.args.edges.now c.args.track c.args.base (sym c.in_ok-check.ensures) (omega arith)

pub overflow_sub-edges : goal.overflow_sub-edges
overflow_sub-edges c = width-below-last c.args.edges.now c.args.track c.args.base (sym c.in_ok-check.ensures) (omega arith)

pub returns-then-not-is_within : goal.returns-then-not-is_within
returns-then-not-is_within c =
    update-past c.args.edges.now c.args.track c.args.base c.in_ok-check.ensures c.if-track-last.false _ c.is_within.ensures c.if-not-is_within.true

pub move_from-requires : goal.move_from-requires
move_from-requires c =
    update-moves c.args.edges.now c.args.track c.args.base c.in_ok-check.ensures c.if-track-last.false _ c.is_within.ensures c.if-not-is_within.false

pub returns-in_err-check : goal.returns-in_err-check
returns-in_err-check c =
    let p = err_from_is_err_and c.from_residual.result c.from_residual.ensures.1 in
    rw (p.1, p.2) (update-unsorted c.args.edges.now c.args.track c.args.base _ _ c.in_err-check.ensures)

pub returns : goal.returns
returns c =
    update-done c.args.edges.now c.args.track c.args.base c.in_ok-check.ensures c.if-track-last.false _ c.is_within.ensures c.if-not-is_within.false _ c.move_from.ensures
