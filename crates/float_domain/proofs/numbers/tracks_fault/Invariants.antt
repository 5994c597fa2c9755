-- The loop of `tracks_fault`: what it keeps true.
use mathlib.Core.Path.{◌≡◌}
use mathlib.Core.List.{[]}
use Prim.Native.Nat.{ℕ, ◌+◌, ◌*◌, ◌<◌}
use lib.ListN.{drop, get_or}
use Rattle.laws.specs.Lists.{All}
use Rattle.float_laws.specs.Numbers.{IsF32}
use Rattle.float_domain.specs.Domain.{tracks_numbers, outside_from}
use Rattle.float_domain.proofs.numbers.tracks_fault.Given as goal

abbrev pub invariant-loop-i : goal.invariant-loop-i
invariant-loop-i l = record {
  walked : outside_from (l.from + 5 * l.i) (tracks_numbers (drop l.i l.tracks)) ≡ outside_from l.from (tracks_numbers l.tracks);
  f32s : (k : ℕ) → k < l.i → All IsF32 (get_or l.tracks k []);
}
