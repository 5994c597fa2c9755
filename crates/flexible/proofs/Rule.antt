-- The fr by cases is the rule's, where the batch is the items that cross an fr track. Assumes nothing.
use mathlib.Core.Path.{◌≡◌, refl}
use mathlib.Core.List.{List}
use Rattle.laws.specs.Lists.{keep}
use Rattle.kinds.specs.declared.constraint.Constraint.{Constraint}
use Rattle.kinds.specs.declared.constraint.Constraint.TheVariants.{Definite, MinContent, MaxContent}
use Rattle.kinds.specs.declared.track.Track.{Track}
use Rattle.lines.specs.declared.line.Line.{Line}
use Rattle.lines.specs.declared.measured.Measured.{Measured}
use Rattle.lines.specs.Rule.{on_fr, max_content_fr, fr_for}
use Rattle.flexible.specs.Flexes.{batch_fr, fr_over}

pub fr-for-is : (e : Constraint) (ts : List Track) (is : List Measured) (ls : List Line) → fr_for e ts is ls ≡ fr_over e (keep (on_fr ts) is) ls
unfolding fr_for max_content_fr batch_fr
fr-for-is (Definite n) ts is ls = refl
fr-for-is MinContent ts is ls = refl
fr-for-is MaxContent ts is ls = refl
