-- The loop of `read_row`: reading only moves on.
use Rattle.texts.specs.Reading.{MovesOn}
use Rattle.float_vectors.proofs.rows.read_row.Given as goal

abbrev pub invariant-loop-float : goal.invariant-loop-float
invariant-loop-float l = MovesOn l.initial.text l.text
