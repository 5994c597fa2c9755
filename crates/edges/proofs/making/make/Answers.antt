-- `make` meets its contract: each refusal in its order, and the edges written where there is none. Assumes nothing.
use Rattle.std.proofs.lemmas.Result.{err_from_is_err_and}
use Rattle.edges.proofs.Made.{make-short, make-past, make-done}
use Rattle.edges.proofs.making.make.Goals as goal

pub returns-then-edges-places : goal.returns-then-edges-places
returns-then-edges-places c = make-short c.args.places.now c.args.edges.now c.if-edges-places.true

pub returns-in_err-check_limits : goal.returns-in_err-check_limits
returns-in_err-check_limits c =
    let p = err_from_is_err_and c.from_residual.result c.from_residual.ensures.1 in
    rw (p.1, p.2) (make-past c.args.places.now c.args.edges.now c.if-edges-places.false _ _ c.in_err-check_limits.ensures)

pub returns : goal.returns
returns c = make-done c.args.places.now c.args.edges.now c.if-edges-places.false c.in_ok-check_limits.ensures _ c.put_edges.ensures
