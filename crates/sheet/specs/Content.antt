-- What the writer goes by: the faults of rows and the size of a sheet, without its bytes. That the bytes show just these
-- faults and have just this size is proved in proofs/Content.antt. Assumes nothing.
use Rattle.std.specs.Prelude.{◌≡◌, true, ℕ, ◌+◌, ◌*◌, ◌≤◌, List, [], ◌∷◌, ◌++◌, length}
use Rattle.rows.specs.Shapes.{EachLong}
use Rattle.sheet.specs.Rule.{Part, Row, record_size, two_bytes, rows_bytes, row_fault, track_record, item_record, Section, track_section, item_section, tracks_at, Fault, fine, fault, first, unless}

-- rows whose records stand one after another from a place
unfoldable pub rows_fault : List Part → List Row → ℕ → Fault
rows_fault parts [] at = fine
rows_fault parts (row ∷ rows) at = first (row_fault parts row at) (rows_fault parts rows (at + record_size parts))

-- a section's rows, whose count stands at a place
abbrev pub section_rows_fault : Section → List Row → ℕ → Fault
section_rows_fault section rows at = first (unless (section.allows (length rows)) (fault 3 at)) (rows_fault section.parts rows (at + 2))

abbrev pub tracks_fault : List Row → Fault
tracks_fault tracks = section_rows_fault track_section tracks tracks_at

abbrev pub items_fault : List Row → ℕ → Fault
items_fault items at = section_rows_fault item_section items at

-- where the count of the items stands behind so many tracks, and where the sheet ends
abbrev pub items_after : ℕ → ℕ
items_after tracks = tracks_at + 2 + tracks * record_size track_record

abbrev pub sheet_size : ℕ → ℕ → ℕ
sheet_size tracks items = items_after tracks + 2 + items * record_size item_record

abbrev pub content_fault : List Row → List Row → Fault
content_fault tracks items = first (tracks_fault tracks) (items_fault items (items_after (length tracks)))

-- a count, and the records behind it
abbrev pub section_bytes : List Part → List Row → List ℕ
section_bytes parts rows = two_bytes (length rows) ++ rows_bytes parts rows

-- ---- The rows' lengths, as a look for faults learns them

-- each row that is looked at, up to the first with a fault, has n numbers
unfoldable pub LookedAt : ℕ → List Part → List Row → ℕ → Type 0
LookedAt n parts [] at = Unit
LookedAt n parts (row ∷ rows) at = (length row ≡ n) × (row_fault parts row at ≡ fine → LookedAt n parts rows (at + record_size parts))

-- the rows of a section are looked at where their number is allowed
abbrev pub SectionLooked : ℕ → Section → List Row → ℕ → Type 0
SectionLooked n section rows at = section.allows (length rows) ≡ true → LookedAt n section.parts rows (at + 2)

pub record Looked (tracks items : List Row) : Type 0 where
  pub at_tracks : SectionLooked 4 track_section tracks tracks_at
  pub at_items : tracks_fault tracks ≡ fine → SectionLooked 7 item_section items (items_after (length tracks))

-- rows without fault, of the numbers that their records say, and bytes enough for them
pub record Writable (tracks items : List Row) (bytes : List ℕ) : Type 0 where
  pub tracks_long : EachLong 4 tracks
  pub items_long : EachLong 7 items
  pub unfaulted : content_fault tracks items ≡ fine
  pub fits : sheet_size (length tracks) (length items) ≤ length bytes
