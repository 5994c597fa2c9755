-- A section whose bytes stand at a place: its count, its rows, its end and its faults are read off the rows. Assumes nothing.
use mathlib.Core.Path.{◌≡◌, refl, sym, ap}
use mathlib.Core.Bool.{true}
use Prim.Native.Nat.{ℕ, ◌+◌, ◌*◌, ◌≤◌}
use mathlib.Core.List.{List, [], ◌∷◌, ◌++◌}
use lib.ListN.{length, length-append}
use Rattle.laws.specs.Faults.{first-where, fine-test}
use Rattle.rows.specs.Shapes.{EachLong, width}
use Rattle.records.proofs.LittleEndian.{length-two_bytes}
use Rattle.rows.proofs.Stands.{Stands, stands-front, stands-next, stands-end, two-read, length-row_bytes, row_read, length-rows_bytes, rows-first, rows_next, rows-read}
use Rattle.sheet.specs.Rule.{Part, Row, record_size, rows_at, rows_bytes, two_at, two_bytes, fault, first, unless, row_fault, records_fault, Section, section_fault, section_end}
use Rattle.sheet.specs.Content.{rows_fault, section_bytes, LookedAt}
use Rattle.sheet.proofs.Looks.{whole-fine}

-- records that stand show the faults of their rows
pub records-fault : {bytes rest : List ℕ} (parts : List Part) (rows : List Row) (p : ℕ) → LookedAt (width parts) parts rows p → Stands bytes p (rows_bytes parts rows) rest
    → records_fault parts bytes (length rows) p ≡ rows_fault parts rows p
unfolding records_fault rows_fault LookedAt
records-fault parts [] p l s = refl
records-fault {bytes} parts (row ∷ rows) p l s =
    let here = rows-first parts row rows p s in
    let h : p + record_size parts ≤ length bytes = rw (length-row_bytes parts row l.0) at (stands-end here) in
    rw (whole-fine bytes _ h, row_read parts row p l.0 here)
    (first-where (row_fault parts row p) (λ e. records-fault parts rows (p + record_size parts) (l.1 e) (rows_next parts row rows p s l.0)))

pub length-section_bytes : (parts : List Part) (rows : List Row) → EachLong (width parts) rows → length (section_bytes parts rows) ≡ 2 + length rows * record_size parts
length-section_bytes parts rows long = rw (length-append, length-two_bytes, length-rows_bytes parts rows long)

module _ {bytes rest : List ℕ} (section : Section) (rows : List Row) (p : ℕ) (s : Stands bytes p (section_bytes section.parts rows) rest) where
  count-here : Stands bytes p (two_bytes (length rows)) (rows_bytes section.parts rows ++ rest)
  count-here = stands-front (two_bytes (length rows)) (rows_bytes section.parts rows) s

  rows-here : Stands bytes (p + 2) (rows_bytes section.parts rows) rest
  rows-here = stands-next (two_bytes (length rows)) (rows_bytes section.parts rows) (p + 2) (ap (p +◌) (sym (length-two_bytes (length rows)))) s

  pub section-count : two_at bytes p ≡ length rows
  section-count = two-read count-here

  pub section-rows : EachLong (width section.parts) rows → rows_at section.parts bytes (two_at bytes p) (p + 2) ≡ rows
  section-rows long = rw section-count (rows-read section.parts rows (p + 2) long rows-here)

  pub section-end : section_end section bytes p ≡ p + 2 + length rows * record_size section.parts
  section-end = rw section-count

  -- the rows need be known only where their count is allowed
  pub section-fault : (section.allows (length rows) ≡ true → LookedAt (width section.parts) section.parts rows (p + 2))
      → section_fault section bytes p ≡ first (unless (section.allows (length rows)) (fault 3 p)) (rows_fault section.parts rows (p + 2))
  section-fault looked =
      let h : p + 2 ≤ length bytes = rw length-two_bytes at (stands-end count-here) in
      rw (whole-fine bytes (p + 2) h, section-count)
      (first-where (unless (section.allows (length rows)) (fault 3 p)) (λ e. records-fault section.parts rows (p + 2) (looked (fine-test (section.allows (length rows)) 3 p e)) rows-here))
