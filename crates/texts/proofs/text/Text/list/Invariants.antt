-- The loop of `list`: reading only moves on.
use Rattle.texts.specs.Reading.{MovesOn}
use Rattle.texts.proofs.text.Text.list.Given as goal

abbrev pub invariant-loop-place : goal.invariant-loop-place
invariant-loop-place g l = MovesOn l.initial.self l.self
