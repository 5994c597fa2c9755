-- The loop of `hex`: reading only moves on, but for the start of a group that is read again.
use Rattle.std.proofs.Common.{◌≤◌}
use Rattle.texts.specs.Reading.{MovesOn}
use Rattle.texts.proofs.text.Text.hex.Given as goal

abbrev pub invariant-loop-place : goal.invariant-loop-place
invariant-loop-place l = MovesOn l.initial.self l.self × (l.initial.self.at ≤ l.start) × (l.start ≤ l.self.at)
