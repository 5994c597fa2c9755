-- `raise` plans a letter over its batch and applies it, unless that would change nothing. Assumes nothing.
use borrow.Author.Rules.{rules}
use mathlib.Core.Path.{sym, ap, ◌∙◌}
use mathlib.Core.Bool.{Bool, ◌&&◌, true≢false}
use Rattle.letters.proofs.Nothing.{or-neither}
use Rattle.spans.proofs.Calm.{lines_stay}
use Rattle.spans.proofs.Planned.{sums-long}
use Rattle.spans.proofs.Raised.{length-planned, planned-fit, raised_is, not-raised, working-after}
use Rattle.spans.proofs.batch.raise.Goals as goal

pub returns-then-not-applies : goal.returns-then-not-applies
returns-then-not-applies c =
    let off = or-neither _ _ c.if-not-applies.true in
    let stay = lines_stay c.args.letter c.args.moved c.args.lines.now (ap (λ (b : Bool). c.args.moved && b) (sym c.changes_unraised.ensures) ∙ off.1) c.requires.2 in (
      not-raised c.args.kind c.args.letter c.args.constraint _ c.args.lines.now c.args.increases.now _ c.requires.0.none c.plan_batch-planned.ensures.laid (c.plan_batch-planned.ensures.nothing off.0) stay,
      record { few = c.requires.0.few; fit = c.requires.0.fit; none = c.plan_batch-planned.ensures.nothing off.0 ∙ c.requires.0.none; gains-long = search rules; rests-long = search rules; totals = c.requires.0.totals },
      c.requires.2,
    )

pub apply-requires : goal.apply-requires
apply-requires c =
    record {
      long = length-planned c.args.kind c.args.letter c.args.constraint _ c.args.lines.now c.args.increases.now _ c.requires.0.none c.plan_batch-planned.ensures.laid;
      fits = planned-fit c.args.kind c.args.letter c.args.constraint _ c.args.lines.now c.args.increases.now _ c.requires.0.none c.plan_batch-planned.ensures.laid _ c.requires.0.fit c.requires.1;
    }

pub tally-requires : goal.tally-requires
tally-requires c =
    let long = sums-long c.args.lines.now c.args.sums.now c.requires.0.totals in
    (search rules, search rules)

pub returns : goal.returns
returns c =
    let r = raised_is c.args.kind c.args.letter c.args.constraint _ c.args.lines.now c.args.increases.now _ c.requires.0.none c.plan_batch-planned.ensures.laid _ c.requires.0.fit c.requires.1 _ c.apply.ensures.0 in
    (r.0, working-after c.requires.0 (search rules) (search rules) (search rules) r.1 c.apply.ensures.1 c.tally.ensures, λ e. absurd (true≢false e))
