-- What a step over the lines is told of the step over one. Assumes nothing.
use Rattle.std.specs.Prelude.{◌≡◌}
use Rattle.lines.specs.declared.line.Line.{Line}

-- the step makes of each line what `made` makes of it
abbrev pub Makes : (Line → Line → Type 0) → (Line → Line) → Type 0
Makes step made = (l after : Line) → step l after → after ≡ made l
