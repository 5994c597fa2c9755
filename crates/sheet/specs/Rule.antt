-- The sheet: what its bytes say, what refuses them, and the bytes that say it. This page follows the build paper's section
-- 'The sheet' and numbers 1 to 6 of its table, in their order. Records have the page before it, `crates/records/specs/Rule.antt`,
-- whose names it hands on. It assumes nothing of the code and it computes.
use Rattle.std.specs.Prelude.{ℕ, zero, suc, ◌+◌, ◌*◌, Bool, List, ◌++◌, leb, eqb, length}
use Rattle.rounds.specs.Rule.{most_tracks}
pub use Rattle.records.specs.Rule.{byte_at, two_at, four_at, Tags, tags, constraint_tags, given_tags, minimum_tags, maximum_tags, stretch_bytes, axis_bytes, Part, tagged, mark, pair, part_size, space_record, track_record, item_record, Row, Fault, fine, fault, first, unless, enough, onto}
unfoldable pub use Rattle.records.specs.Rule.{two_bytes, four_bytes, record_size, row_at, row_bytes, rows_at, rows_bytes, tagged_fault, row_fault}

-- ---- Sections, each after its two-byte count

-- 1: the bytes end before `to`.
abbrev pub whole_to : List ℕ → ℕ → Fault
whole_to bytes to = unless (leb to (length bytes)) (fault 1 (length bytes))

-- so many records: 1 comes before a look inside
unfoldable pub records_fault : List Part → List ℕ → ℕ → ℕ → Fault
records_fault parts bytes zero at = fine
records_fault parts bytes (suc n) at =
    first (whole_to bytes (at + record_size parts))
    (first (row_fault parts (row_at parts bytes at) at)
    (records_fault parts bytes n (at + record_size parts)))

pub record Section : Type 0 where
  pub allows : ℕ → Bool
  pub parts : List Part

abbrev pub most_items : ℕ
most_items = 1024

abbrev pub space_section : Section
space_section = record { allows = λ (count : ℕ). eqb count 1; parts = space_record }

abbrev pub track_section : Section
track_section = record { allows = λ (count : ℕ). leb count most_tracks; parts = track_record }

abbrev pub item_section : Section
item_section = record { allows = λ (count : ℕ). leb count most_items; parts = item_record }

-- 1: the count is not wholly there. 3: it is not allowed.
abbrev pub count_fault : Section → List ℕ → ℕ → Fault
count_fault section bytes at = first (whole_to bytes (at + 2)) (unless (section.allows (two_at bytes at)) (fault 3 at))

abbrev pub section_fault : Section → List ℕ → ℕ → Fault
section_fault section bytes at = first (count_fault section bytes at) (records_fault section.parts bytes (two_at bytes at) (at + 2))

abbrev pub section_end : Section → List ℕ → ℕ → ℕ
section_end section bytes at = at + 2 + two_at bytes at * record_size section.parts

-- ---- The sheet: space, tracks, items. It may stand in a longer run of bytes, and then `at` is the place of its first byte

pub record Sheet : Type 0 where
  pub space : Row
  pub tracks : List Row
  pub items : List Row

-- where the tracks stand, behind a count and the one record of the space
abbrev pub tracks_from : ℕ → ℕ
tracks_from at = at + 2 + record_size space_record

-- where the items stand, and where the sheet ends
abbrev pub items_from : List ℕ → ℕ → ℕ
items_from bytes at = section_end track_section bytes (tracks_from at)

abbrev pub end_from : List ℕ → ℕ → ℕ
end_from bytes at = section_end item_section bytes (items_from bytes at)

unfoldable pub sheet_from : List ℕ → ℕ → Sheet
sheet_from bytes at =
    record {
      space = row_at space_record bytes (at + 2);
      tracks = rows_at track_record bytes (two_at bytes (tracks_from at)) (tracks_from at + 2);
      items = rows_at item_record bytes (two_at bytes (items_from bytes at)) (items_from bytes at + 2);
    }

-- 1 and 3 to 5, front to back; 1 where the whole run ends too early
unfoldable pub fault_from : List ℕ → ℕ → Fault
fault_from bytes at =
    first (section_fault space_section bytes at)
    (first (section_fault track_section bytes (tracks_from at))
    (section_fault item_section bytes (items_from bytes at)))

-- the same of the three counts alone
abbrev pub counts_fault_from : List ℕ → ℕ → Fault
counts_fault_from bytes at =
    first (count_fault space_section bytes at)
    (first (count_fault track_section bytes (tracks_from at))
    (count_fault item_section bytes (items_from bytes at)))

-- 2, a step of its own: bytes follow `end`
abbrev pub over_fault : List ℕ → (end : ℕ) → Fault
over_fault bytes end = unless (leb (length bytes) end) (fault 2 end)

-- ---- A sheet by itself: it begins with the first byte, and nothing follows its items

abbrev pub tracks_at : ℕ
tracks_at = tracks_from 0

abbrev pub items_at : List ℕ → ℕ
items_at bytes = items_from bytes 0

abbrev pub sheet_end : List ℕ → ℕ
sheet_end bytes = end_from bytes 0

abbrev pub sheet_at : List ℕ → Sheet
sheet_at bytes = sheet_from bytes 0

unfoldable pub sheet_bytes : Sheet → List ℕ
sheet_bytes sheet =
    two_bytes 1 ++ (row_bytes space_record sheet.space
    ++ (two_bytes (length sheet.tracks) ++ (rows_bytes track_record sheet.tracks
    ++ (two_bytes (length sheet.items) ++ rows_bytes item_record sheet.items))))

unfoldable pub sheet_fault : List ℕ → Fault
sheet_fault bytes = first (fault_from bytes 0) (over_fault bytes (sheet_end bytes))

-- ---- The longest sheet

-- the bytes of a sheet with all the tracks and items that are allowed
abbrev pub longest : ℕ
longest = tracks_at + 2 + most_tracks * record_size track_record + 2 + most_items * record_size item_record

-- ---- The calls

-- What reading tells: the space and the two counts, or the refusal; and what stands in the lent rows after it.
pub data ReadTold : Type 0 where
  sheet_read : (space : Row) (tracks items : ℕ) → ReadTold
  read_refused : (number place : ℕ) → ReadTold

pub record ReadOutcome : Type 0 where
  pub told : ReadTold
  pub tracks : List Row
  pub items : List Row

abbrev pub read_outcome : ReadTold → List Row → List Row → ReadOutcome
read_outcome told tracks items = record { told = told; tracks = tracks; items = items }

-- 1 to 5, then 6.
abbrev pub read_fault : List ℕ → List Row → List Row → Fault
read_fault bytes tracks items =
    first (sheet_fault bytes)
    (first (enough (two_at bytes tracks_at) (length tracks))
    (enough (two_at bytes (items_at bytes)) (length items)))

abbrev pub read_sheet : Sheet → List Row → List Row → ReadOutcome
read_sheet sheet tracks items =
    read_outcome (sheet_read sheet.space (length sheet.tracks) (length sheet.items)) (onto sheet.tracks tracks) (onto sheet.items items)

abbrev pub read_as : Fault → Sheet → List Row → List Row → ReadOutcome
read_as fine sheet tracks items = read_sheet sheet tracks items
read_as (fault number place) sheet tracks items = read_outcome (read_refused number place) tracks items

unfoldable pub read_call : List ℕ → List Row → List Row → ReadOutcome
read_call bytes tracks items = read_as (read_fault bytes tracks items) (sheet_at bytes) tracks items

-- What writing tells: the sheet's length, or the refusal; and what stands in the lent bytes after it.
pub data WriteTold : Type 0 where
  sheet_written : (size : ℕ) → WriteTold
  write_refused : (number place : ℕ) → WriteTold

pub record WriteOutcome : Type 0 where
  pub told : WriteTold
  pub bytes : List ℕ

abbrev pub write_outcome : WriteTold → List ℕ → WriteOutcome
write_outcome told bytes = record { told = told; bytes = bytes }

-- 3 to 5 where its bytes would show them, then 6.
abbrev pub write_fault : Sheet → List ℕ → Fault
write_fault sheet lent = first (sheet_fault (sheet_bytes sheet)) (enough (length (sheet_bytes sheet)) (length lent))

abbrev pub write_as : Fault → List ℕ → List ℕ → WriteOutcome
write_as fine bytes lent = write_outcome (sheet_written (length bytes)) (onto bytes lent)
write_as (fault number place) bytes lent = write_outcome (write_refused number place) lent

unfoldable pub write_call : Sheet → List ℕ → WriteOutcome
write_call sheet lent = write_as (write_fault sheet lent) (sheet_bytes sheet) lent

-- The end of a sheet, from its counts alone: 1 where a count is not there, 3 where it is not allowed.
pub data EndTold : Type 0 where
  end_at : (place : ℕ) → EndTold
  end_refused : (number place : ℕ) → EndTold

abbrev pub end_as : Fault → ℕ → EndTold
end_as fine end = end_at end
end_as (fault number place) end = end_refused number place

-- of the sheet at a place, and of one by itself
unfoldable pub end_from_call : List ℕ → ℕ → EndTold
end_from_call bytes at = end_as (counts_fault_from bytes at) (end_from bytes at)

abbrev pub end_call : List ℕ → EndTold
end_call bytes = end_from_call bytes 0
