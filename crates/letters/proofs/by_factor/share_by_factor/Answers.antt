-- `share_by_factor` gives a line alone all the dots; it is the plain fill where all factors are 0, and else the quotas with the dots over. Assumes
-- nothing.
use borrow.Author.Rules.{rules}
use mathlib.Core.Path.{sym, ap, ◌∙◌}
use native.Mathlib.Omega.{arith}
use Rattle.laws.specs.Sums.{sum}
use Rattle.letters.specs.Letters.{letter_of}
use Rattle.letters.proofs.ByFactor.{alone-shared, factors-fit, few-of-none, factors-fit-as, weighed-shared, plain_shared}
use Rattle.letters.proofs.by_factor.share_by_factor.Goals as goal

pub returns-then-lines-eq1 : goal.returns-then-lines-eq1
returns-then-lines-eq1 c = alone-shared (letter_of c.args.letter) c.args.extra c.args.lines.now c.args.gains.now c.if-lines-eq1.true (c.requires.0.gains-long ∙ c.if-lines-eq1.true) c.requires.3

pub share_out-requires : goal.share_out-requires
share_out-requires c = (
  record { few = c.requires.0.few; gains-long = search rules; rests-long = search rules },
  c.requires.1,
  few-of-none _ (ap sum c.load_factors-total.ensures.0 ∙ sym c.load_factors-total.ensures.2 ∙ c.if-total-eq0.true),
)

pub returns-then-total-eq0 : goal.returns-then-total-eq0
returns-then-total-eq0 c = plain_shared c.args.letter c.args.extra c.args.lines.now _ c.load_factors-total.ensures.0 _ (ap sum c.load_factors-total.ensures.0 ∙ sym c.load_factors-total.ensures.2 ∙ c.if-total-eq0.true) c.share_out.ensures.0

pub share_quotas-requires : goal.share_quotas-requires
share_quotas-requires c = (search rules, c.load_factors-total.ensures.2 ∙ sym (ap sum c.load_factors-total.ensures.1), search rules, c.requires.1, factors-fit-as c.load_factors-total.ensures.1 (factors-fit c.args.letter c.args.lines.now c.requires.2))

pub returns : goal.returns
returns c =
    let total = c.load_factors-total.ensures.2 ∙ sym (ap sum c.load_factors-total.ensures.1) in
    weighed-shared c.args.letter c.args.extra c.args.lines.now _ c.load_factors-total.ensures.1 _ (omega arith) c.share_quotas.ensures
