-- `raise_all` raises the letters of bases, which leave every line calm, then those of limits. Assumes nothing.
use mathlib.Core.Path.{sym, subst}
use Rattle.spans.specs.Work.{Calm}
use Rattle.spans.proofs.Calm.{half-calm}
use Rattle.spans.proofs.batch.raise_all.Goals as goal

pub raise_letters-requires-2 : goal.raise_letters-requires-2
raise_letters-requires-2 c = (
  c.raise_letters.ensures.1,
  rw c.raise_letters.auto.lines c.requires.1,
  subst Calm (sym c.raise_letters.ensures.0) (half-calm c.args.kind c.args.constraint c.args.batch.now c.args.lines.now c.requires.2),
)
