-- `hold_short` meets its contract. The loop's invariant: the marks written, and those that the rest comes to, are all; one
-- was short, or one of the rest is, where any is. Assumes nothing.
use borrow.Author.Rules.{rules}
use mathlib.Core.Path.{refl, ap}
use mathlib.Core.Bool.{false, ◌||◌}
use Prim.Native.Nat.{◌+◌}
use lib.ListN.{get_or, drop}
use Rattle.laws.specs.Walk.{store_step, store-end}
use Rattle.flexible.specs.Flexes.{held_next}
use Rattle.flexible.proofs.Walks.{next-step, next-end, some-step, some_end}
use Rattle.flexible.proofs.search.hold_short.Goals as goal

pub loop-i-preserved : goal.loop-i-preserved
loop-i-preserved c =
    let mark = get_or c.loop-i.held c.loop-i.i false in (
      store_step c.loop-i.held c.loop-i.i (held_next c.args.fr (drop c.loop-i.i c.args.lines.now)) (held_next c.args.fr (drop (c.loop-i.i + 1) c.args.lines.now)) (c.is_short-short.result || mark) false _ (search rules)
          (next-step c.args.lines.now c.loop-i.i _ c.args.fr (c.is_short-short.result || mark) mark _ (search rules) (ap (◌|| mark) c.is_short-short.ensures)) c.loop-i.invariant.0,
      some-step c.args.fr c.args.lines.now c.loop-i.held c.loop-i.i _ c.loop-i.any c.is_short-short.result (c.is_short-short.result || c.loop-i.any) (c.is_short-short.result || mark) _ (search rules) (search rules) c.is_short-short.ensures refl c.loop-i.invariant.1,
    )

pub returns : goal.returns
returns c = (
  some_end c.args.fr c.args.lines.now c.loop-i.held c.loop-i.i _ _ (search rules) c.loop-i.invariant.1,
  store-end c.loop-i.held c.loop-i.i (held_next c.args.fr (drop c.loop-i.i c.args.lines.now)) _ (search rules) (next-end c.args.lines.now c.loop-i.i c.args.fr _ (search rules)) c.loop-i.invariant.0,
)
