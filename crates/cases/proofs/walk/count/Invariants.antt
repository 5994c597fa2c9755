-- The loop of `count`: the text is the one that was lent, no more differ than there are, and no more are counted than bytes passed. A
-- tally's first parts are its cases and those that differ.
use Rattle.std.proofs.Common.{◌≡◌, ◌≤◌, ◌-◌, length}
use Rattle.cases.proofs.walk.count.Given as goal

abbrev pub invariant-loop-check : goal.invariant-loop-check
invariant-loop-check g l = (l.text.bytes.now ≡ l.bytes) × (l.tally.1.0 ≤ l.tally.0) × (l.tally.0 ≤ l.text.at)

abbrev pub decreases-loop-check : goal.decreases-loop-check
decreases-loop-check g l = length l.text.bytes.now - l.text.at
