-- `item_over` looks at each contribution. Assumes nothing.
use borrow.Author.Rules.{rules}
use borrow.Author.Tests.{tests}
use Rattle.std.proofs.lemmas.Iterator.{YieldsList-from_slice}
use Rattle.std.proofs.lemmas.Iterator.Search.{any_from_yields_List}
use Rattle.laws.specs.Lists.{some}
use Rattle.kinds.specs.Kinds.{amount_at}
use Rattle.kinds.specs.declared.item.ContributionKind.{ContributionKind}
use Rattle.checks.specs.Rule.{amount_over, most_contribution, contribution_kinds}
use Rattle.checks.proofs.over.item_over.Goals as goal

pub returns : goal.returns
unfolding some
returns c =
    any_from_yields_List (λ (k : ContributionKind). amount_over most_contribution (amount_at c.args.item k)) _ _ c.any.result c.any.ensures.ran
    (YieldsList-from_slice contribution_kinds cc) (λ x b q k. search (rules, tests))
