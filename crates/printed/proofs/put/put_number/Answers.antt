-- `put_number`: the kit's digits are the rule's, and are put as a word. Assumes nothing.
use mathlib.Core.Path.{◌∙◌}
use native.Mathlib.Omega.{arith}
use Rattle.printed.proofs.Joined.{putting-as}
use Rattle.printed.proofs.Decimal.{decimal-of-fewest, fewest-le}
use Rattle.printed.proofs.put.put_number.Goals as goal

pub returns : goal.returns
returns c =
    let few = fewest-le c.args.n c.decimal-count.result c.ranges.n.fits c.decimal-count.ensures.len in
    putting-as (omega (arith, c.decimal-count.ensures.in_bounds.1)) (c.decimal-count.ensures.digits ∙ decimal-of-fewest c.args.n c.decimal-count.result c.decimal-count.ensures.len) c.put_word.ensures
