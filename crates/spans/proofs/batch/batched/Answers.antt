-- `batched` runs the letters of a batch that has items. Assumes nothing.
use mathlib.Core.Path.{sym, subst, ◌∙◌}
use Rattle.spans.specs.Work.{Calm}
use Rattle.spans.proofs.Calm.{batch-calm}
use Rattle.spans.proofs.Raised.{batch-of-none, batch-of-steps}
use Rattle.spans.proofs.batch.batched.Goals as goal

pub returns-then-is_empty : goal.returns-then-is_empty
returns-then-is_empty c = (batch-of-none c.args.kind c.args.constraint c.args.batch.now c.args.lines.now (sym c.is_empty.ensures ∙ c.if-is_empty.true), c.requires.0, c.requires.2)

pub returns : goal.returns
returns c = (
  batch-of-steps c.args.kind c.args.constraint c.args.batch.now c.args.lines.now _ (sym c.is_empty.ensures ∙ c.if-is_empty.false) c.raise_all.ensures.0,
  c.raise_all.ensures.1,
  subst Calm (sym c.raise_all.ensures.0) (batch-calm c.args.kind c.args.constraint c.args.batch.now c.args.lines.now c.requires.2),
)
