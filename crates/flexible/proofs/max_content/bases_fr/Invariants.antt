-- The loop of `bases_fr`: what it keeps true.
use mathlib.Core.Path.{◌≡◌}
use lib.ListN.{drop}
use Rattle.laws.specs.Lists.{in_turn}
use Rattle.lines.specs.Rule.{base_fr, bases_fr}
use Rattle.flexible.proofs.Lines.{fr_only}
use Rattle.flexible.proofs.max_content.bases_fr.Given as goal

abbrev pub invariant-loop-line : goal.invariant-loop-line
invariant-loop-line l = (in_turn base_fr (fr_only (drop l.line-index l.lines)) l.fr ≡ bases_fr l.lines)
