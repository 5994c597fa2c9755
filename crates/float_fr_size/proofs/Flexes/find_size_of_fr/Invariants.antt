-- The loop of `find_size_of_fr`: what it keeps true.
use mathlib.Core.Path.{◌≡◌}
use Prim.Native.Nat.{◌-◌}
use Rattle.float_fr_size.specs.Fr.{fr_passes}
use Rattle.float_fr_size.specs.Flexes.{over}
use Rattle.float_fr_size.proofs.Flexes.find_size_of_fr.Given as goal

abbrev pub invariant-loop : goal.invariant-loop
invariant-loop l = over fr_passes l.self l.space (l.most - l.counter) l.fr ≡ over fr_passes l.self l.space l.most l.initial.fr
