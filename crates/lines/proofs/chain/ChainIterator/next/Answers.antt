-- `next` gives the first of the items that are left. Assumes nothing.
use borrow.Author.Rules.{rules}
use mathlib.Core.Path.{sym, ap, ◌∙◌}
use mathlib.Core.List.{[], ◌∷◌}
use Prim.Native.Nat.{◌<◌, ◌≤◌}
use native.Mathlib.Omega.{arith}
use lib.ListN.{length}
use Rattle.lines.proofs.Chains.{chained-end, chained-step}
use Rattle.lines.proofs.chain.ChainIterator.next.Goals as goal

pub loop-self-preserved : goal.loop-self-preserved
loop-self-preserved c =
    let k : c.loop-self.self-inside.next < length c.loop-self.self-inside.nexts.now = omega (arith, c.loop-self.invariant.long, c.loop-self-test.true) in
    record {
      long = c.loop-self.invariant.long;
      rising = c.loop-self.invariant.rising;
      left = sym (chained-step c.loop-self.self-inside.items.now c.loop-self.self-inside.nexts.now c.loop-self.self-inside.next c.loop-self.invariant.rising k _ c.of_row-item.ensures [] c.in_default.ensures) ∙ c.loop-self.invariant.left;
    }

pub returns-in-Some-clause-steps : goal.returns-in-Some-clause-steps
returns-in-Some-clause-steps c =
    let k : c.loop-self.self-inside.next < length c.loop-self.self-inside.nexts.now = omega (arith, c.loop-self.invariant.long, c.loop-self-test.true) in
    sym c.self.view_is ∙ sym c.loop-self.invariant.left
    ∙ chained-step c.loop-self.self-inside.items.now c.loop-self.self-inside.nexts.now c.loop-self.self-inside.next c.loop-self.invariant.rising k _ c.of_row-item.ensures (c.in-Some.measured ∷ []) c.in-Some.ensures

pub returns-in-Some-clause-goes : goal.returns-in-Some-clause-goes
returns-in-Some-clause-goes c =
    let k : c.loop-self.self-inside.next < length c.loop-self.self-inside.nexts.now = omega (arith, c.loop-self.invariant.long, c.loop-self-test.true) in
    let steps =
    sym c.self.view_is ∙ sym c.loop-self.invariant.left
    ∙ chained-step c.loop-self.self-inside.items.now c.loop-self.self-inside.nexts.now c.loop-self.self-inside.next c.loop-self.invariant.rising k _ c.of_row-item.ensures (c.in-Some.measured ∷ []) c.in-Some.ensures in
    let fewer = ap length steps in
    record { on = λ _. (search rules, search rules, omega (arith, fewer)); keeps = search rules; rests = λ _. search rules }

pub returns-clause-steps : goal.returns-clause-steps
returns-clause-steps c =
    let out : length c.loop-self.self-inside.nexts.now ≤ c.loop-self.self-inside.next = omega (arith, c.loop-self.invariant.long, c.loop-self-test.false) in
    let none = chained-end c.loop-self.self-inside.items.now c.loop-self.self-inside.nexts.now c.loop-self.self-inside.next out in
    (sym c.self.view_is ∙ sym c.loop-self.invariant.left ∙ none, none)
