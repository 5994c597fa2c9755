-- What a goal has for a line past the end of a list. Assumes nothing.
use Rattle.std.specs.Prelude.{None, false}
use Rattle.kinds.specs.Kinds.{track}
use Rattle.kinds.specs.declared.track.Minimum.TheVariants as minimum
use Rattle.kinds.specs.declared.track.Maximum.TheVariants as maximum
use Rattle.lines.specs.declared.line.Line.{Line}
use Rattle.lines.specs.Rule.{line}

abbrev pub no_line : Line
no_line = line (track (minimum.Fixed 0) (maximum.Fixed 0)) 0 None false
