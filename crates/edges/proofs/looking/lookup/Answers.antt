-- `lookup` meets its contract: the entry that narrowing finds is the track of the full scan, or the last edge. Assumes nothing.
use Rattle.std.proofs.Common.{sym}
use Rattle.std.proofs.lemmas.Result.{err_from_is_err_and}
use Rattle.edges.proofs.Scan.{lookup-last, lookup-unsorted}
use Rattle.edges.proofs.looking.lookup.Goals as goal

pub returns-in_err-check : goal.returns-in_err-check
returns-in_err-check c =
    let p = err_from_is_err_and c.from_residual.result c.from_residual.ensures.1 in
    rw (p.1, p.2) (lookup-unsorted c.args.edges.now c.args.dot _ _ c.in_err-check.ensures)

pub returns : goal.returns
returns c = lookup-last c.args.edges.now c.args.dot (sym c.in_ok-check.ensures) _ c.narrow-last.ensures _ c.then_some.ensures
