-- `search_over` meets its contract. The loop's invariant: the restarts still to come lead to the search's end. Assumes nothing.
use borrow.Author.Rules.{rules}
use mathlib.Core.Path.{sym, ◌∙◌}
use Prim.Native.Nat.{◌+◌, ◌-◌}
use native.Mathlib.Omega.{arith}
use lib.ListN.{length}
use Rattle.flexible.specs.Flexes.{flexes}
use Rattle.flexible.proofs.Turns.{search-start, search-again, search-done, search-out}
use Rattle.flexible.proofs.search.search_over.Goals as goal

pub loop-init : goal.loop-init
loop-init c = (search rules, search-start c.args.space c.args.lines.now _ (length c.args.lines.now - 0) (omega arith) c.hold_first.ensures)

pub returns-then-not-more : goal.returns-then-not-more
returns-then-not-more c =
    search-done c.args.space (flexes c.args.lines.now c.loop.held) c.fr_now-fr.result _ c.fr_now-fr.ensures (length c.args.lines.now - c.loop.counter)
    (sym c.hold_short-more.ensures.0 ∙ c.if-not-more.true) c.loop.invariant.1

pub loop-preserved : goal.loop-preserved
loop-preserved c = (
  search rules,
  search-again c.args.space c.args.lines.now c.loop.held (length c.args.lines.now - c.loop.counter) (length c.args.lines.now - (c.loop.counter + 1)) _ c.fr_now-fr.result _ _ c.fr_now-fr.ensures
      c.hold_short-more.ensures.0 c.hold_short-more.ensures.1 c.if-not-more.false (omega arith) c.loop.invariant.1,
)

pub returns : goal.returns
returns c = search-out c.args.space (flexes c.args.lines.now c.loop.held) c.fr_now.result _ c.fr_now.ensures (length c.args.lines.now - c.loop.counter) (omega arith) c.loop.invariant.1
