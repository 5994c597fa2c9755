-- What the sheet's three functions of the C face leave: the answer, and what then stands in everything that was lent to be written.
-- Assumes nothing.
use Rattle.std.specs.Prelude.{ℕ, List}
use Rattle.kinds.specs.Kinds.{Row}
use Rattle.sheet.specs.Rule.{Sheet, ReadTold, sheet_read, read_refused, ReadOutcome, WriteTold, sheet_written, write_refused, WriteOutcome, EndTold, end_at, end_refused}

-- ---- `torrivask_read_sheet`

pub record ReadLeft : Type 0 where
  pub code : ℕ
  pub space : Row
  pub tracks : List Row
  pub items : List Row
  pub track_count : ℕ
  pub item_count : ℕ
  pub place : ℕ

abbrev pub read_left : ℕ → Row → List Row → List Row → ℕ → ℕ → ℕ → ReadLeft
read_left code space tracks items track_count item_count place =
    record { code = code; space = space; tracks = tracks; items = items; track_count = track_count; item_count = item_count; place = place }

-- Only a refusal writes the place, and nothing else.
abbrev pub read_writes : ReadTold → List Row → List Row → (space : Row) → (track_count item_count place : ℕ) → ReadLeft
read_writes (sheet_read row n m) tracks items space track_count item_count place = read_left 0 row tracks items n m place
read_writes (read_refused number at) tracks items space track_count item_count place = read_left number space tracks items track_count item_count at

-- what the call left, over what stood there before
abbrev pub read_face : ReadOutcome → (space : Row) → (track_count item_count place : ℕ) → ReadLeft
read_face outcome = read_writes outcome.told outcome.tracks outcome.items

-- ---- `torrivask_write_sheet`

-- the sheet that C hands over: the space is a row of numbers like the others, with its faults
abbrev pub row_sheet : Row → List Row → List Row → Sheet
row_sheet space tracks items = record { space = space; tracks = tracks; items = items }

pub record WriteLeft : Type 0 where
  pub code : ℕ
  pub bytes : List ℕ
  pub size : ℕ
  pub place : ℕ

abbrev pub write_left : ℕ → List ℕ → ℕ → ℕ → WriteLeft
write_left code bytes size place = record { code = code; bytes = bytes; size = size; place = place }

abbrev pub write_writes : WriteTold → List ℕ → (size place : ℕ) → WriteLeft
write_writes (sheet_written n) bytes size place = write_left 0 bytes n place
write_writes (write_refused number at) bytes size place = write_left number bytes size at

abbrev pub write_face : WriteOutcome → (size place : ℕ) → WriteLeft
write_face outcome = write_writes outcome.told outcome.bytes

-- ---- `torrivask_sheet_end`

pub record EndLeft : Type 0 where
  pub code : ℕ
  pub end : ℕ
  pub place : ℕ

abbrev pub end_left : ℕ → ℕ → ℕ → EndLeft
end_left code end place = record { code = code; end = end; place = place }

abbrev pub end_face : EndTold → (end place : ℕ) → EndLeft
end_face (end_at at) end place = end_left 0 at place
end_face (end_refused number at) end place = end_left number end at
