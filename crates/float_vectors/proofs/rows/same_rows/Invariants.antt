-- The loop of `same_rows`: where the rests are the same, the lists are.
use mathlib.Core.Path.{◌≡◌}
use lib.ListN.{drop}
use Rattle.float_vectors.specs.Wanted.{rows_bits}
use Rattle.float_vectors.proofs.rows.same_rows.Given as goal

abbrev pub invariant-loop-i : goal.invariant-loop-i
invariant-loop-i l = rows_bits (drop l.i l.a) ≡ rows_bits (drop l.i l.b) → rows_bits l.a ≡ rows_bits l.b
