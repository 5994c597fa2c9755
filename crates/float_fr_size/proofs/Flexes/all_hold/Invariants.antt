-- The loop of `all_hold`: what it keeps true.
use mathlib.Core.Path.{◌≡◌}
use mathlib.Core.Bool.{true}
use Rattle.laws.specs.Turns.{every_place}
use Rattle.float_fr_size.specs.Fr.{holds_for, flex_at}
use Rattle.float_fr_size.specs.Flexes.{over}
use Rattle.float_fr_size.proofs.Flexes.all_hold.Given as goal

abbrev pub invariant-loop-i : goal.invariant-loop-i
invariant-loop-i l = every_place (λ i. holds_for (over flex_at l.self i) l.fr l.previous) l.i ≡ true
