-- What a sheet without fault has: three allowed counts and all the records that these announce; and by itself nothing behind them.
-- Assumes nothing.
use mathlib.Core.Path.{◌≡◌, ap, ◌∙◌}
use mathlib.Core.Bool.{true}
use Prim.Native.Nat.{ℕ, zero, suc, ◌+◌, ◌*◌, ◌≤◌}
use native.Mathlib.Omega.{arith}
use mathlib.Core.List.{List}
use lib.Dec.{leb}
use lib.ListN.{length, drop}
use borrow.Author.Tests.{leb-true, eqb-true}
use Rattle.laws.specs.Faults.{first-assoc, fine-both, fine-test}
use Rattle.rounds.specs.Rule.{most_tracks}
use Rattle.rows.specs.Shapes.{AreBytes}
use Rattle.rows.proofs.Stands.{Stands, stands-join, two-stands, rows-stand, length-rows_at, width-row_at}
use Rattle.rows.proofs.KindRows.{row-of-space}
use Rattle.sheet.specs.Rule.{Part, record_size, space_record, row_at, rows_at, two_at, fine, whole_to, row_fault, records_fault, Section, count_fault, section_fault, section_end, space_section, track_section, item_section, most_items, first, tracks_from, items_from, fault_from, tracks_at, items_at, sheet_end, over_fault, sheet_fault}
use Rattle.sheet_kinds.specs.Kinds.{space_row, space_of}
use Rattle.sheet.specs.Content.{section_bytes}
use Rattle.sheet.proofs.Looks.{fine-whole}

-- records without fault are wholly there
records-whole : (parts : List Part) (bytes : List ℕ) (n p : ℕ) → p ≤ length bytes → records_fault parts bytes n p ≡ fine → p + n * record_size parts ≤ length bytes
unfolding records_fault
records-whole parts bytes zero p h e = omega arith
records-whole parts bytes (suc n) p h e =
    let here = fine-both (whole_to bytes (p + record_size parts)) _ e in
    let rest = fine-both (row_fault parts (row_at parts bytes p) p) _ here.1 in
    omega (arith, records-whole parts bytes n (p + record_size parts) (fine-whole bytes _ here.0) rest.1)

module _ (section : Section) (bytes : List ℕ) (p : ℕ) where
  -- a count without fault
  pub record CountFine : Type 0 where
    pub whole : p + 2 ≤ length bytes
    pub allowed : section.allows (two_at bytes p) ≡ true

  pub count-fine : count_fault section bytes p ≡ fine → CountFine
  count-fine e =
      let f = fine-both (whole_to bytes (p + 2)) _ e in
      record { whole = fine-whole bytes (p + 2) f.0; allowed = fine-test (section.allows (two_at bytes p)) 3 p f.1 }

  -- a section without fault
  pub record SectionFine : Type 0 where
    pub count : CountFine
    pub records : records_fault section.parts bytes (two_at bytes p) (p + 2) ≡ fine
    pub ends : section_end section bytes p ≤ length bytes

  pub section-fine : section_fault section bytes p ≡ fine → SectionFine
  section-fine e =
      let f = fine-both (count_fault section bytes p) _ e in
      let c = count-fine f.0 in
      record { count = c; records = f.1; ends = records-whole section.parts bytes (two_at bytes p) (p + 2) c.whole f.1 }

  -- the bytes of its rows stand there
  pub section-stands : AreBytes bytes → SectionFine
      → Stands bytes p (section_bytes section.parts (rows_at section.parts bytes (two_at bytes p) (p + 2))) (drop (section_end section bytes p) bytes)
  section-stands small f =
      rw (length-rows_at section.parts bytes (two_at bytes p) (p + 2)) (stands-join _ _ (two-stands small p f.count.whole) (rows-stand small section.parts (two_at bytes p) (p + 2) f.ends))

-- ---- the sheet, from a place

pub record AcceptedFrom (bytes : List ℕ) (p : ℕ) : Type 0 where
  pub space : SectionFine space_section bytes p
  pub tracks : SectionFine track_section bytes (tracks_from p)
  pub items : SectionFine item_section bytes (items_from bytes p)
  pub one_space : two_at bytes p ≡ 1
  pub space_fine : row_fault space_record (row_at space_record bytes (p + 2)) (p + 2) ≡ fine
  pub few_tracks : two_at bytes (tracks_from p) ≤ most_tracks
  pub few_items : two_at bytes (items_from bytes p) ≤ most_items

module _ (bytes : List ℕ) (p : ℕ) where
  pub accepted-from : fault_from bytes p ≡ fine → AcceptedFrom bytes p
  unfolding fault_from records_fault
  accepted-from e =
      let s = fine-both (section_fault space_section bytes p) _ e in
      let t = fine-both (section_fault track_section bytes (tracks_from p)) _ s.1 in
      let space = section-fine space_section bytes p s.0 in
      let tracks = section-fine track_section bytes (tracks_from p) t.0 in
      let items = section-fine item_section bytes (items_from bytes p) t.1 in
      let one = eqb-true (two_at bytes p) 1 space.count.allowed in
      let in_space = fine-both (whole_to bytes (p + 2 + record_size space_record)) _ (rw one at space.records) in
      record {
        space = space;
        tracks = tracks;
        items = items;
        one_space = one;
        space_fine = (fine-both (row_fault space_record (row_at space_record bytes (p + 2)) (p + 2)) _ in_space.1).0;
        few_tracks = leb-true _ _ tracks.count.allowed;
        few_items = leb-true _ _ items.count.allowed;
      }

  -- the space that is read says its row again
  pub space-row-of-accepted : fault_from bytes p ≡ fine → space_row (space_of (row_at space_record bytes (p + 2))) ≡ row_at space_record bytes (p + 2)
  space-row-of-accepted e = row-of-space (row_at space_record bytes (p + 2)) (p + 2) (width-row_at space_record bytes (p + 2)) (accepted-from e).space_fine

-- ---- the sheet by itself

-- 2 comes behind the others
pub fine-over : (bytes : List ℕ) → sheet_fault bytes ≡ fine → (fault_from bytes 0 ≡ fine) × (over_fault bytes (sheet_end bytes) ≡ fine)
unfolding sheet_fault
fine-over bytes e = fine-both (fault_from bytes 0) _ e

pub record Accepted (bytes : List ℕ) : Type 0 where
  pub from : AcceptedFrom bytes 0
  pub none_over : length bytes ≤ sheet_end bytes

pub accepted : (bytes : List ℕ) → sheet_fault bytes ≡ fine → Accepted bytes
accepted bytes e =
    let f = fine-over bytes e in
    record { from = accepted-from bytes 0 f.0; none_over = leb-true _ _ (fine-test (leb (length bytes) (sheet_end bytes)) _ _ f.1) }

-- the faults in their order, section by section
pub fault-in-order : (bytes : List ℕ)
    → sheet_fault bytes
    ≡ first (section_fault space_section bytes 0)
    (first (section_fault track_section bytes tracks_at) (first (section_fault item_section bytes (items_at bytes)) (over_fault bytes (sheet_end bytes))))
unfolding sheet_fault fault_from
fault-in-order bytes =
    first-assoc (section_fault space_section bytes 0) _ _
    ∙ ap (first (section_fault space_section bytes 0)) (first-assoc (section_fault track_section bytes tracks_at) _ _)
