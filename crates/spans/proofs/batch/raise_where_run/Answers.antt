-- `raise_where_run` raises by a letter that is run. Assumes nothing.
use Rattle.spans.proofs.Raised.{step_left, step-taken}
use Rattle.spans.proofs.batch.raise_where_run.Goals as goal

pub returns-then-not-letter_runs : goal.returns-then-not-letter_runs
returns-then-not-letter_runs c = (step_left c.args.kind c.args.letter c.args.constraint c.args.batch.now c.args.lines.now c.letter_runs.ensures c.if-not-letter_runs.true, c.requires.0, c.requires.2)

pub returns : goal.returns
returns c = (step-taken c.args.kind c.args.letter c.args.constraint c.args.batch.now c.args.lines.now _ c.letter_runs.ensures c.if-not-letter_runs.false c.raise.ensures.0, c.raise.ensures.1, c.raise.ensures.2)
