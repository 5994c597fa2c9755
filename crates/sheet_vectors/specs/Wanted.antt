-- What a case wants told of each call: a refusal's number and place, or the parts of an answer that is no refusal.
-- Assumes nothing.
use Rattle.std.specs.Prelude.{List, Result, Ok, Err}
use Rattle.cases.specs.declared.wanted.Answer.{Answer}
use Rattle.cases.specs.declared.wanted.Refused.{Refused}
use Rattle.sheet.specs.Rule.{Row, Sheet, ReadTold, sheet_read, read_refused, WriteTold, sheet_written, write_refused, EndTold, end_at, end_refused}

abbrev pub wanted_read : Result Answer Refused → Row → ReadTold
wanted_read (Ok rows) space = sheet_read space rows.first rows.second
wanted_read (Err refusal) space = read_refused refusal.number refusal.place

-- the first number is the size
abbrev pub wanted_write : Result Answer Refused → WriteTold
wanted_write (Ok size) = sheet_written size.first
wanted_write (Err refusal) = write_refused refusal.number refusal.place

-- the first number is the place
abbrev pub wanted_end : Result Answer Refused → EndTold
wanted_end (Ok place) = end_at place.first
wanted_end (Err refusal) = end_refused refusal.number refusal.place

-- the sheet of a case that writes
abbrev pub sheet_said : Row → List Row → List Row → Sheet
sheet_said space tracks items = record { space = space; tracks = tracks; items = items }
