-- There and back: what reading and then writing leave together, and writing and then reading, said without what goes between
-- them. Bytes that are read come back as themselves, and so does a sheet that is written. Assumes nothing of the code, and it computes.
use Rattle.std.specs.Prelude.{ℕ, List, length}
use Rattle.sheet.specs.Rule.{Row, Fault, first, enough, Sheet, read_fault, ReadOutcome, read_as, read_call, write_fault, WriteOutcome, write_as, write_call}

-- ---- Bytes, read and written back

-- What writing leaves, and the rows in which reading left the sheet.
pub record Copied : Type 0 where
  pub written : WriteOutcome
  pub tracks : List Row
  pub items : List Row

abbrev pub copied : WriteOutcome → List Row → List Row → Copied
copied written tracks items = record { written = written; tracks = tracks; items = items }

-- a refusal of reading, else 6 of writing
abbrev pub copy_fault : (bytes : List ℕ) (tracks items : List Row) (lent : List ℕ) → Fault
copy_fault bytes tracks items lent = first (read_fault bytes tracks items) (enough (length bytes) (length lent))

-- the bytes that are written are those that were read
unfoldable pub read_and_write : (bytes : List ℕ) (tracks items : List Row) (lent : List ℕ) → Copied
read_and_write bytes tracks items lent =
    let read = read_call bytes tracks items in
    copied (write_as (copy_fault bytes tracks items lent) bytes lent) read.tracks read.items

-- ---- A sheet, written and read back

-- What reading leaves, and the bytes in which writing left the sheet.
pub record Carried : Type 0 where
  pub read : ReadOutcome
  pub bytes : List ℕ

abbrev pub carried : ReadOutcome → List ℕ → Carried
carried read bytes = record { read = read; bytes = bytes }

-- a refusal of writing, else 6 of reading
abbrev pub carry_fault : (sheet : Sheet) (lent : List ℕ) (tracks items : List Row) → Fault
carry_fault sheet lent tracks items =
    first (write_fault sheet lent)
    (first (enough (length sheet.tracks) (length tracks))
    (enough (length sheet.items) (length items)))

-- the sheet that is read is that which was written
unfoldable pub write_and_read : (sheet : Sheet) (lent : List ℕ) (tracks items : List Row) → Carried
write_and_read sheet lent tracks items = carried (read_as (carry_fault sheet lent tracks items) sheet tracks items) (write_call sheet lent).bytes
