-- `check_limits` stops at the first track past its limits, or finds none. Assumes nothing.
use Rattle.std.proofs.Common.{sym, ◌∙◌}
use Rattle.edges.proofs.Made.{past-here, past-behind, past-end}
use Rattle.edges.proofs.making.check_limits.Goals as goal

pub returns-then-not-is_within : goal.returns-then-not-is_within
returns-then-not-is_within c =
    sym (past-here c.args.places.now c.loop-track.track c.loop-track.edge c.loop-track-test.true _ c.is_within.ensures c.if-not-is_within.true) ∙ c.loop-track.invariant

pub loop-track-preserved : goal.loop-track-preserved
loop-track-preserved c =
    past-behind c.args.places.now c.loop-track.track c.loop-track.edge c.loop-track-test.true _ c.is_within.ensures c.if-not-is_within.false ∙ c.loop-track.invariant

pub returns : goal.returns
returns c = sym (past-end c.args.places.now c.loop-track.track c.loop-track.edge c.loop-track-test.false) ∙ c.loop-track.invariant
