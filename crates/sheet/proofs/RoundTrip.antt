-- A sheet and its bytes give each other back, by themselves and through the calls; and a call refuses exactly where the rule
-- has a fault. Assumes nothing.
use mathlib.Core.Path.{◌≡◌, sym, ◌∙◌}
use mathlib.Core.Logic.{◌↔◌}
use Prim.Native.Nat.{ℕ, ◌+◌, ◌≤◌}
use mathlib.Core.List.{List, [], ◌∷◌}
use lib.ListN.{length, drop, drop_of_length-le}
use Rattle.rows.specs.Shapes.{AreBytes, width}
use Rattle.rows.proofs.Stands.{Stands, stands-whole, stands-join, width-row_at, width-rows_at}
use Rattle.sheet.specs.Rule.{Row, record_size, space_record, track_record, item_record, space_section, track_section, item_section, two_at, row_at, rows_at, tracks_at, items_at, Sheet, sheet_from, sheet_at, sheet_bytes, Fault, fine, fault, first, sheet_fault, enough, read_fault, read_as, read_refused, read_call, write_fault, write_as, write_refused, write_call}
use Rattle.sheet.specs.Content.{section_bytes}
use Rattle.sheet.specs.RoundTrip.{Shaped}
use Rattle.sheet.proofs.Content.{sections-of-sheet, written-fault, track-count, item_count, shaped-reads-back}
use Rattle.sheet.proofs.RowFaults.{number-of-rows, of-sheet}
use Rattle.sheet.proofs.Accepted.{accepted, section-stands}

-- ---- bytes, their sheet, and back

-- the rows that are read have as many numbers as their records say
pub shaped-of-read : (bytes : List ℕ) → Shaped (sheet_at bytes)
unfolding sheet_from width
shaped-of-read bytes =
    record {
      of_space = width-row_at space_record bytes 2;
      of_tracks = width-rows_at track_record bytes (two_at bytes tracks_at) (tracks_at + 2);
      of_items = width-rows_at item_record bytes (two_at bytes (items_at bytes)) (items_at bytes + 2);
    }

pub accepted-writes-back : (bytes : List ℕ) → AreBytes bytes → sheet_fault bytes ≡ fine → sheet_bytes (sheet_at bytes) ≡ bytes
unfolding sheet_from rows_at record_size
accepted-writes-back bytes small e =
    let a = accepted bytes e in
    let space : Stands bytes 0 (section_bytes space_record (row_at space_record bytes 2 ∷ [])) (drop tracks_at bytes) = rw a.from.one_space at (section-stands space_section bytes 0 small a.from.space) in
    let tracks = section-stands track_section bytes tracks_at small a.from.tracks in
    let items = section-stands item_section bytes (items_at bytes) small a.from.items in
    let all = stands-join _ _ space (stands-join _ _ tracks items) in
    sections-of-sheet (sheet_at bytes) ∙ sym (stands-whole all (drop_of_length-le bytes a.none_over))

-- its bytes say it even where they have a fault, which is what refuses it
pub written-reads-back : (sheet : Sheet) → Shaped sheet → sheet_at (sheet_bytes sheet) ≡ sheet
written-reads-back = shaped-reads-back

-- ---- the same of the calls: 6 is all that can refuse

pub write-of-read : (bytes lent : List ℕ) → AreBytes bytes → sheet_fault bytes ≡ fine → write_call (sheet_at bytes) lent ≡ write_as (enough (length bytes) (length lent)) bytes lent
unfolding write_call
write-of-read bytes lent small e = rw (accepted-writes-back bytes small e, e)

pub read-of-written : (sheet : Sheet) (tracks items : List Row) → Shaped sheet → sheet_fault (sheet_bytes sheet) ≡ fine
    → read_call (sheet_bytes sheet) tracks items ≡ read_as (first (enough (length sheet.tracks) (length tracks)) (enough (length sheet.items) (length items))) sheet tracks items
unfolding read_call
read-of-written sheet tracks items shaped e = rw (e, item_count sheet shaped, track-count sheet shaped, written-reads-back sheet shaped)

-- ---- a call refuses exactly where there is a fault

pub read-refused-iff-fault : (bytes : List ℕ) (tracks items : List Row) (number place : ℕ)
    → ((read_call bytes tracks items).told ≡ read_refused number place) ↔ (read_fault bytes tracks items ≡ fault number place)
unfolding read_call
read-refused-iff-fault bytes tracks items number place = (go (read_fault bytes tracks items), λ e. rw e)
  where
    go : (f : Fault) → (read_as f (sheet_at bytes) tracks items).told ≡ read_refused number place → f ≡ fault number place
    go fine e = cc
    go (fault m q) e = cc

pub write-refused-iff-fault : (sheet : Sheet) (lent : List ℕ) (number place : ℕ) → ((write_call sheet lent).told ≡ write_refused number place) ↔ (write_fault sheet lent ≡ fault number place)
unfolding write_call
write-refused-iff-fault sheet lent number place = (go (write_fault sheet lent), λ e. rw e)
  where
    go : (f : Fault) → (write_as f (sheet_bytes sheet) lent).told ≡ write_refused number place → f ≡ fault number place
    go fine e = cc
    go (fault m q) e = cc

-- bytes that are written lack nothing and have nothing over: their fault, if any, is none of 1 and 2
pub written-never-short-or-over : (sheet : Sheet) (number place : ℕ) → Shaped sheet → sheet_fault (sheet_bytes sheet) ≡ fault number place → (3 ≤ number) × (number ≤ 5)
written-never-short-or-over sheet number place shaped e =
    number-of-rows _ number place (of-sheet space_record sheet.space 2 sheet.tracks sheet.items) (sym (written-fault sheet shaped) ∙ e)
