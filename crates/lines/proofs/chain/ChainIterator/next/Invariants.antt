-- The loop of `next`: what is left to come stays the same past an item that lacks a contribution; and what falls.
use mathlib.Core.Path.{◌≡◌}
use Prim.Native.Nat.{◌-◌}
use lib.ListN.{length}
use Rattle.lines.specs.Chains.{Rising, chained}
use Rattle.lines.proofs.chain.ChainIterator.next.Given as goal

abbrev pub invariant-loop-self : goal.invariant-loop-self
invariant-loop-self l =
    record {
      long : length l.self-inside.nexts.now ≡ length l.self-inside.items.now;
      rising : Rising l.self-inside.nexts.now;
      left : chained l.self-inside.items.now l.self-inside.nexts.now l.self-inside.next ≡ chained l.initial.self-inside.items.now l.initial.self-inside.nexts.now l.initial.self-inside.next;
    }

abbrev pub decreases-loop-self : goal.decreases-loop-self
decreases-loop-self l = length l.self-inside.items.now - l.self-inside.next
