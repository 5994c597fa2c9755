-- `flex` expands by the fr of the expansion space, which is within its bounds. Assumes nothing.
use mathlib.Core.Path.{sym, subst}
use native.Mathlib.Omega.{arith}
use lib.ListN.{length}
use Rattle.flexible.specs.Flexes.{FrFits}
use Rattle.flexible.proofs.Bounds.{fr-over-bounds}
use Rattle.flexible.proofs.flex.Goals as goal

pub expand-requires-clause-fr_fits : goal.expand-requires-clause-fr_fits
expand-requires-clause-fr_fits c = subst FrFits (sym c.fr_over-fr.ensures) (fr-over-bounds c.args.lines.now (omega arith) c.requires.store_fits.fits (length c.args.lines.now) c.args.e _ c.requires.total_value.1 c.requires.batch_fits).fits
