-- The records of a sheet: what their bytes say, what is wrong with them, and the bytes that say it. This is the first page of the
-- sheet's rule, and `crates/sheet/specs/Rule.antt` the second: sections, the sheet, the calls. They follow the build paper's section
-- 'The sheet' and numbers 1 to 6 of its table, in the words for faults of `crates/laws/specs/Faults.antt`, 6 among them (`enough`), and the word for
-- what is lent of `Put.antt` beside it (`onto`), which it hands on. It assumes nothing of the code and it computes.
use Rattle.std.specs.Prelude.{ℕ, zero, suc, ◌+◌, ◌*◌, ◌/◌, ◌%◌, cond, List, [], ◌∷◌, ◌++◌, eqb, get_or}
use Rattle.laws.specs.Lists.{among}
pub use Rattle.laws.specs.Faults.{Fault, fine, fault, first, unless, enough}
pub use Rattle.laws.specs.Put.{onto}
pub use Rattle.kinds.specs.Kinds.{Row}

-- ---- Numbers, little-endian

abbrev pub byte_at : List ℕ → ℕ → ℕ
byte_at bytes at = get_or bytes at 0

abbrev pub two_at : List ℕ → ℕ → ℕ
two_at bytes at = byte_at bytes at + 256 * byte_at bytes (at + 1)

abbrev pub four_at : List ℕ → ℕ → ℕ
four_at bytes at = two_at bytes at + 65536 * two_at bytes (at + 2)

unfoldable pub two_bytes : ℕ → List ℕ
two_bytes n = n % 256 ∷ n / 256 ∷ []

unfoldable pub four_bytes : ℕ → List ℕ
four_bytes n = two_bytes (n % 65536) ++ two_bytes (n / 65536)

-- ---- Tags

-- The tags that carry a number, and those that carry none.
pub record Tags : Type 0 where
  pub carrying : List ℕ
  pub bare : List ℕ

abbrev pub tags : List ℕ → List ℕ → Tags
tags carrying bare = record { carrying = carrying; bare = bare }

-- definite; min-content, max-content
abbrev pub constraint_tags : Tags
constraint_tags = tags (1 ∷ []) (2 ∷ 3 ∷ [])

-- given; absent
abbrev pub given_tags : Tags
given_tags = tags (1 ∷ []) (0 ∷ [])

-- fixed; auto, min-content, max-content
abbrev pub minimum_tags : Tags
minimum_tags = tags (1 ∷ []) (2 ∷ 3 ∷ 4 ∷ [])

-- fixed, fit-content, fr; auto, min-content, max-content
abbrev pub maximum_tags : Tags
maximum_tags = tags (1 ∷ 5 ∷ 6 ∷ []) (2 ∷ 3 ∷ 4 ∷ [])

abbrev pub stretch_bytes : List ℕ
stretch_bytes = 0 ∷ 1 ∷ []

-- inline, block
abbrev pub axis_bytes : List ℕ
axis_bytes = 0 ∷ 1 ∷ []

-- ---- Records, each of parts in fixed order

pub data Part : Type 0 where
  -- a tag, and a u32
  tagged : Tags → Part
  -- a byte, one of these
  mark : List ℕ → Part
  -- two u16, which a row keeps as the halves of one number, the first as the lower half
  pair : Part

abbrev pub part_size : Part → ℕ
part_size (tagged tags) = 5
part_size (mark listed) = 1
part_size pair = 4

unfoldable pub record_size : List Part → ℕ
record_size [] = 0
record_size (part ∷ parts) = part_size part + record_size parts

-- constraint, inner size, stretch, axis
abbrev pub space_record : List Part
space_record = tagged constraint_tags ∷ tagged given_tags ∷ mark stretch_bytes ∷ mark axis_bytes ∷ []

-- minimum, maximum
abbrev pub track_record : List Part
track_record = tagged minimum_tags ∷ tagged maximum_tags ∷ []

-- start and span, then the three contributions
abbrev pub item_record : List Part
item_record = pair ∷ tagged given_tags ∷ tagged given_tags ∷ tagged given_tags ∷ []

-- A row is what a record says, its numbers in order. That of the record at a place:
unfoldable pub row_at : List Part → List ℕ → ℕ → Row
row_at [] bytes at = []
row_at (tagged tags ∷ parts) bytes at = byte_at bytes at ∷ four_at bytes (at + 1) ∷ row_at parts bytes (at + 5)
row_at (mark listed ∷ parts) bytes at = byte_at bytes at ∷ row_at parts bytes (at + 1)
row_at (pair ∷ parts) bytes at = four_at bytes at ∷ row_at parts bytes (at + 4)

-- The bytes of a record that says this.
unfoldable pub row_bytes : List Part → Row → List ℕ
row_bytes (tagged tags ∷ parts) (tag ∷ n ∷ row) = tag ∷ (four_bytes n ++ row_bytes parts row)
row_bytes (tagged tags ∷ parts) (tag ∷ []) = []
row_bytes (mark listed ∷ parts) (n ∷ row) = n ∷ row_bytes parts row
row_bytes (pair ∷ parts) (n ∷ row) = four_bytes n ++ row_bytes parts row
row_bytes (part ∷ parts) [] = []
row_bytes [] row = []

-- so many records, one after another
unfoldable pub rows_at : List Part → List ℕ → ℕ → ℕ → List Row
rows_at parts bytes zero at = []
rows_at parts bytes (suc n) at = row_at parts bytes at ∷ rows_at parts bytes n (at + record_size parts)

unfoldable pub rows_bytes : List Part → List Row → List ℕ
rows_bytes parts [] = []
rows_bytes parts (row ∷ rows) = row_bytes parts row ++ rows_bytes parts rows

-- ---- Faults, front to back: the first byte at fault decides

-- 4: the tag is not listed. 5: it carries no number, and the number is not zero.
unfoldable pub tagged_fault : Tags → ℕ → ℕ → ℕ → Fault
tagged_fault tags tag n at =
    cond (among tags.carrying tag)
    fine
    (cond (among tags.bare tag)
    (unless (eqb n 0) (fault 5 (at + 1)))
    (fault 4 at))

-- a row whose record stands at a place
unfoldable pub row_fault : List Part → Row → ℕ → Fault
row_fault (tagged tags ∷ parts) (tag ∷ n ∷ row) at = first (tagged_fault tags tag n at) (row_fault parts row (at + 5))
row_fault (tagged tags ∷ parts) (tag ∷ []) at = fine
row_fault (mark listed ∷ parts) (n ∷ row) at = first (unless (among listed n) (fault 4 at)) (row_fault parts row (at + 1))
row_fault (pair ∷ parts) (n ∷ row) at = row_fault parts row (at + 4)
row_fault (part ∷ parts) [] at = fine
row_fault [] row at = fine
