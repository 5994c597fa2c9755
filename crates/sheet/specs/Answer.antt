-- The code's answers in the words of the rule: each refusal by the paper's number and place, and what each call leaves.
-- Assumes nothing.
use Rattle.std.specs.Prelude.{◌≡◌, ℕ, ◌≤◌, Bool, List, length, Result, Ok, Err}
use Rattle.records.specs.Answer.{number_of, place_of}
use Rattle.records.specs.declared.refusal.Refusal.{Refusal}
use Rattle.sheet.specs.Rule.{Row, Part, Section, Fault, fine, first, two_at, tracks_from, items_from, fault_from, tracks_at, items_at, enough, Sheet, ReadTold, sheet_read, read_refused, ReadOutcome, read_outcome, WriteTold, sheet_written, write_refused, WriteOutcome, write_outcome, EndTold, end_at, end_refused}
use Rattle.sheet_kinds.specs.Kinds.{space_row}
use Rattle.sheet_kinds.specs.declared.space.Space.{Space}
use Rattle.sheet.specs.declared.reading.Contents.{Contents}

-- ---- What each call leaves

abbrev pub read_told : Result Contents Refusal → ReadTold
read_told (Ok contents) = sheet_read (space_row contents.space) contents.tracks contents.items
read_told (Err refusal) = read_refused (number_of refusal) (place_of refusal)

abbrev pub read_leaves : Result Contents Refusal → List Row → List Row → ReadOutcome
read_leaves answer tracks items = read_outcome (read_told answer) tracks items

abbrev pub write_told : Result ℕ Refusal → WriteTold
write_told (Ok length) = sheet_written length
write_told (Err refusal) = write_refused (number_of refusal) (place_of refusal)

abbrev pub write_leaves : Result ℕ Refusal → List ℕ → WriteOutcome
write_leaves answer bytes = write_outcome (write_told answer) bytes

abbrev pub end_told : Result ℕ Refusal → EndTold
end_told (Ok place) = end_at place
end_told (Err refusal) = end_refused (number_of refusal) (place_of refusal)

-- the sheet of a call that writes
abbrev pub sheet_of : Space → List Row → List Row → Sheet
sheet_of space tracks items = record { space = space_row space; tracks = tracks; items = items }

-- ---- Steps of the code

-- the section of so many records, as many as are allowed
abbrev pub section_of : (ℕ → Bool) → List Part → Section
section_of allows parts = record { allows = allows; parts = parts }

abbrev pub enough_rows : List ℕ → ℕ → ℕ → Fault
enough_rows bytes tracks items = first (enough (two_at bytes tracks_at) tracks) (enough (two_at bytes (items_at bytes)) items)

-- a sheet from a place that has no fault, and rows enough for it
pub record Loadable (bytes : List ℕ) (place : ℕ) (tracks items : List Row) : Type 0 where
  pub unfaulted : fault_from bytes place ≡ fine
  pub tracks_fit : two_at bytes (tracks_from place) ≤ length tracks
  pub items_fit : two_at bytes (items_from bytes place) ≤ length items
