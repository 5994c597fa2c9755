-- `plan_item` lays what one item gives over the increases, if it gives anything. Assumes nothing.
use borrow.Author.Rules.{rules}
use mathlib.Core.Path.{refl, sym, ◌∙◌}
use mathlib.Core.Bool.{true≢false}
use native.Mathlib.Omega.{arith}
use lib.Seq.{length-take-le}
use Rattle.laws.specs.Lists.{in_turn}
use Rattle.spans.proofs.Planned.{length-between, between-few, between-fits, extra-few, laid-over, sums-long, spanned-rises, spanned-total, asks_nothing, affects-nothing}
use Rattle.spans.proofs.batch.plan_item.Goals as goal

pub bounds-sums-a : goal.bounds-sums-a
bounds-sums-a c =
    let long = sums-long c.args.lines.now c.args.sums.now c.requires.0.totals in
    search rules

pub bounds-sums-e : goal.bounds-sums-e
bounds-sums-e c =
    let long = sums-long c.args.lines.now c.args.sums.now c.requires.0.totals in
    search rules

pub total_between-total-requires : goal.total_between-total-requires
total_between-total-requires c = spanned-rises c.args.lines.now c.args.item c.args.letter _ c.args.sums.now c.requires.0.totals c.requires.1.within

pub invariant_of-extra : goal.invariant_of-extra
invariant_of-extra c =
    record {
      few = between-few c.args.item.start c.args.item.span c.args.lines.now c.requires.1.within c.requires.0.few;
      fit = between-fits c.args.item.start c.args.item.span c.args.lines.now c.requires.0.fit;
    }

pub extra-dots-requires : goal.extra-dots-requires
extra-dots-requires c = spanned-total c.args.lines.now c.args.item c.args.letter _ c.args.sums.now c.requires.0.totals c.requires.1.within _ c.total_between-total.ensures

pub returns-then-dots-eq0 : goal.returns-then-dots-eq0
unfolding in_turn
returns-then-dots-eq0 c = record { laid = asks_nothing c.args.kind c.args.lines.now c.args.item c.args.letter c.args.constraint c.args.increases.now _ c.extra-dots.ensures (search rules); nothing = λ _. refl }

pub returns-then-not-affects_some : goal.returns-then-not-affects_some
unfolding in_turn
returns-then-not-affects_some c = record { laid = affects-nothing c.args.kind c.args.lines.now c.args.item c.args.letter c.args.constraint c.args.increases.now c.affects_some.ensures c.if-not-affects_some.true; nothing = λ _. refl }

pub share_in-requires : goal.share_in-requires
share_in-requires c =
    let on = length-between c.args.item.start c.args.item.span c.args.lines.now c.requires.1.within in (
      record {
        few = between-few c.args.item.start c.args.item.span c.args.lines.now c.requires.1.within c.requires.0.few;
        gains-long = length-take-le c.args.item.span c.args.gains.now (omega (arith, c.requires.1.within, c.requires.0.gains-long)) ∙ sym on;
        rests-long = length-take-le c.args.item.span c.args.rests.now (omega (arith, c.requires.1.within, c.requires.0.rests-long)) ∙ sym on;
      },
      extra-few c.args.lines.now c.args.item c.args.letter c.args.constraint _ _ c.requires.1 c.extra-dots.ensures,
      between-fits c.args.item.start c.args.item.span c.args.lines.now c.requires.0.fit,
      sym c.affects_some.ensures ∙ c.if-not-affects_some.false,
    )

pub returns : goal.returns
unfolding in_turn
returns c =
    record {
      laid = laid-over c.args.kind c.args.lines.now c.args.item c.args.letter c.args.constraint c.args.gains.now c.args.increases.now _ _ _ c.requires.1.within
          c.extra-dots.ensures c.share_in.ensures c.lay_over.ensures;
      nothing = λ e. absurd (true≢false e);
    }
