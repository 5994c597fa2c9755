-- `check_falls` stops at the first entry that falls, or finds none. Assumes nothing.
use Rattle.std.proofs.Common.{sym, ◌∙◌}
use Rattle.edges.proofs.Falls.{falls-here, falls-behind, falls-end}
use Rattle.edges.proofs.checking.check_falls.Goals as goal

pub returns-then-edges-entry : goal.returns-then-edges-entry
returns-then-edges-entry c = sym (falls-here c.args.edges.now c.loop-entry.entry c.loop-entry-test.true c.if-edges-entry.true) ∙ c.loop-entry.invariant

pub loop-entry-preserved : goal.loop-entry-preserved
loop-entry-preserved c = sym (falls-behind c.args.edges.now c.loop-entry.entry c.loop-entry-test.true c.if-edges-entry.false) ∙ c.loop-entry.invariant

pub returns : goal.returns
returns c = sym (falls-end c.args.edges.now c.loop-entry.entry c.loop-entry-test.false) ∙ c.loop-entry.invariant
