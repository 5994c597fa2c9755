-- The bytes of a sheet show the faults of its rows, and are as many as its counts say. Assumes nothing.
use mathlib.Core.Path.{◌≡◌, refl, sym, ap, ◌∙◌}
use Prim.Native.Nat.{ℕ, zero, suc, ◌+◌, ◌*◌, zero-le}
use native.Mathlib.Nat.{not-suc-le-zero, le_of_suc-le-suc}
use native.Mathlib.Omega.{arith}
use mathlib.Core.List.{List, [], ◌∷◌, ◌++◌, append_assoc, append-nil}
use lib.ListN.{length, get_or, length-append}
use borrow.Author.Tests.{le-leb}
use Rattle.laws.specs.Faults.{first_fine, first-where, fine-both}
use Rattle.rounds.specs.Rule.{most_tracks}
use Rattle.rows.specs.Shapes.{EachLong, width}
use Rattle.records.proofs.Counts.{le-of-count-fine}
use Rattle.rows.proofs.Stands.{Stands, stands-front, stands-next}
use Rattle.rows.proofs.KindRows.{space-fine}
use Rattle.sheet.specs.Rule.{Row, record_size, row_at, rows_at, row_fault, rows_bytes, space_record, track_record, item_record, space_section, track_section, item_section, two_at, tracks_at, items_at, sheet_end, Sheet, sheet_bytes, sheet_at, sheet_from, sheet_fault, section_fault, over_fault, most_items, Fault, first, fine, fault}
use Rattle.sheet.specs.Answer.{sheet_of}
use Rattle.sheet.specs.Content.{rows_fault, section_bytes, tracks_fault, items_fault, items_after, sheet_size, content_fault, Looked}
use Rattle.sheet.specs.RoundTrip.{Shaped}
use Rattle.sheet_kinds.specs.declared.space.Space.{Space}
use Rattle.sheet.proofs.Accepted.{fault-in-order}
use Rattle.sheet.proofs.Looked.{looked-of-long, long-of-looked}
use Rattle.sheet.proofs.SectionBytes.{length-section_bytes, section-count, section-rows, section-end, section-fault}

-- a sheet's bytes are those of its three sections
pub sections-of-sheet : (sheet : Sheet) → sheet_bytes sheet ≡ section_bytes space_record (sheet.space ∷ []) ++ (section_bytes track_record sheet.tracks ++ section_bytes item_record sheet.items)
unfolding sheet_bytes rows_bytes
sections-of-sheet sheet = simp (append_assoc, append-nil)

-- ---- where the sections stand, and what is read there

module _ (sheet : Sheet) (space_long : length sheet.space ≡ width space_record) where
  long-space : EachLong (width space_record) (sheet.space ∷ [])
  long-space zero h = space_long
  long-space (suc i) h = absurd (not-suc-le-zero (le_of_suc-le-suc h))

  length-space : length (section_bytes space_record (sheet.space ∷ [])) ≡ tracks_at
  unfolding record_size
  length-space = length-section_bytes space_record (sheet.space ∷ []) long-space

  all-stand : Stands (sheet_bytes sheet) 0 (section_bytes space_record (sheet.space ∷ []) ++ (section_bytes track_record sheet.tracks ++ section_bytes item_record sheet.items)) []
  all-stand = record { within = zero-le; is = sections-of-sheet sheet ∙ sym (append-nil _) }

  space-stands : Stands (sheet_bytes sheet) 0 (section_bytes space_record (sheet.space ∷ [])) ((section_bytes track_record sheet.tracks ++ section_bytes item_record sheet.items) ++ [])
  space-stands = stands-front (section_bytes space_record (sheet.space ∷ [])) _ all-stand

  behind-space : Stands (sheet_bytes sheet) tracks_at (section_bytes track_record sheet.tracks ++ section_bytes item_record sheet.items) []
  behind-space = stands-next (section_bytes space_record (sheet.space ∷ [])) _ tracks_at (omega (arith, length-space)) all-stand

  tracks-stand : Stands (sheet_bytes sheet) tracks_at (section_bytes track_record sheet.tracks) (section_bytes item_record sheet.items ++ [])
  tracks-stand = stands-front (section_bytes track_record sheet.tracks) _ behind-space

  items-at : items_at (sheet_bytes sheet) ≡ items_after (length sheet.tracks)
  items-at = section-end track_section sheet.tracks tracks_at tracks-stand

  read-space : row_at space_record (sheet_bytes sheet) 2 ≡ sheet.space
  unfolding rows_at
  read-space =
      ap (λ (rows : List Row). get_or rows 0 [])
      (rw (section-count space_section (sheet.space ∷ []) 0 space-stands) at (section-rows space_section (sheet.space ∷ []) 0 space-stands long-space))

  module _ (tracks_long : EachLong 4 sheet.tracks) where
    length-tracks : length (section_bytes track_record sheet.tracks) ≡ 2 + length sheet.tracks * record_size track_record
    unfolding width
    length-tracks = length-section_bytes track_record sheet.tracks tracks_long

    items-stand : Stands (sheet_bytes sheet) (items_after (length sheet.tracks)) (section_bytes item_record sheet.items) []
    items-stand = stands-next (section_bytes track_record sheet.tracks) _ _ (omega (arith, length-tracks)) behind-space

    sheet-end : sheet_end (sheet_bytes sheet) ≡ sheet_size (length sheet.tracks) (length sheet.items)
    sheet-end = rw items-at (section-end item_section sheet.items (items_after (length sheet.tracks)) items-stand)

    module _ (items_long : EachLong 7 sheet.items) where
      length-items : length (section_bytes item_record sheet.items) ≡ 2 + length sheet.items * record_size item_record
      unfolding width
      length-items = length-section_bytes item_record sheet.items items_long

      length-sheet_bytes : length (sheet_bytes sheet) ≡ sheet_size (length sheet.tracks) (length sheet.items)
      length-sheet_bytes =
          let t = section_bytes track_record sheet.tracks in
          let i = section_bytes item_record sheet.items in
          let a = length-append (section_bytes space_record (sheet.space ∷ [])) (t ++ i) in
          let b = length-append t i in
          rw sections-of-sheet (omega (arith, a, b, length-space, length-tracks, length-items))

      over-fine : over_fault (sheet_bytes sheet) (sheet_end (sheet_bytes sheet)) ≡ fine
      over-fine = rw (le-leb (length (sheet_bytes sheet)) (sheet_end (sheet_bytes sheet)) (omega (arith, length-sheet_bytes, sheet-end)))

  -- ---- the faults: the length of a row matters only where it is looked at

  space-fault : section_fault space_section (sheet_bytes sheet) 0 ≡ row_fault space_record sheet.space 2
  unfolding rows_fault width
  space-fault = section-fault space_section (sheet.space ∷ []) 0 space-stands (λ a. looked-of-long _ _ _ _ long-space) ∙ first_fine (row_fault space_record sheet.space 2)

  -- that of the space comes first, whatever the tracks and the items are
  pub fault-of-space : (number place : ℕ) → row_fault space_record sheet.space 2 ≡ fault number place → sheet_fault (sheet_bytes sheet) ≡ fault number place
  fault-of-space number place e = fault-in-order (sheet_bytes sheet) ∙ rw (space-fault, e)

  module _ (looked : Looked sheet.tracks sheet.items) where
    looked-tracks-long : tracks_fault sheet.tracks ≡ fine → EachLong 4 sheet.tracks
    looked-tracks-long e =
        let f = le-of-count-fine (length sheet.tracks) most_tracks tracks_at _ e in
        long-of-looked 4 track_record sheet.tracks (tracks_at + 2) (looked.at_tracks (le-leb _ _ f.0)) f.1

    looked-items-long : tracks_fault sheet.tracks ≡ fine → items_fault sheet.items (items_after (length sheet.tracks)) ≡ fine → EachLong 7 sheet.items
    looked-items-long t e =
        let f = le-of-count-fine (length sheet.items) most_items (items_after (length sheet.tracks)) _ e in
        long-of-looked 7 item_record sheet.items (items_after (length sheet.tracks) + 2) (looked.at_items t (le-leb _ _ f.0)) f.1

    -- where no track has a fault, that of the items
    behind-tracks : tracks_fault sheet.tracks ≡ fine
        → first (section_fault item_section (sheet_bytes sheet) (items_at (sheet_bytes sheet))) (over_fault (sheet_bytes sheet) (sheet_end (sheet_bytes sheet))) ≡ items_fault sheet.items (items_after (length sheet.tracks))
    unfolding width
    behind-tracks t =
        let long = looked-tracks-long t in
        let after = items_after (length sheet.tracks) in
        let here : section_fault item_section (sheet_bytes sheet) (items_at (sheet_bytes sheet)) ≡ items_fault sheet.items after =
        rw items-at (section-fault item_section sheet.items after (items-stand long) (looked.at_items t)) in
        ap (λ (f : Fault). first f (over_fault (sheet_bytes sheet) (sheet_end (sheet_bytes sheet)))) here
        ∙ first-where (items_fault sheet.items after) (λ e. over-fine long (looked-items-long t e))
        ∙ first_fine (items_fault sheet.items after)

    -- the space's fault, and then that of the tracks and the items
    looked-fault : sheet_fault (sheet_bytes sheet) ≡ first (row_fault space_record sheet.space 2) (content_fault sheet.tracks sheet.items)
    unfolding width
    looked-fault =
        fault-in-order (sheet_bytes sheet)
        ∙ rw (space-fault, section-fault track_section sheet.tracks tracks_at tracks-stand looked.at_tracks)
        (ap (first (row_fault space_record sheet.space 2)) (first-where (tracks_fault sheet.tracks) behind-tracks))

-- ---- a sheet whose rows have the numbers that their records say

module _ (sheet : Sheet) (shaped : Shaped sheet) where
  pub track-count : two_at (sheet_bytes sheet) tracks_at ≡ length sheet.tracks
  track-count = section-count track_section sheet.tracks tracks_at (tracks-stand sheet shaped.of_space)

  pub item_count : two_at (sheet_bytes sheet) (items_at (sheet_bytes sheet)) ≡ length sheet.items
  item_count = rw (items-at sheet shaped.of_space) (section-count item_section sheet.items (items_after (length sheet.tracks)) (items-stand sheet shaped.of_space shaped.of_tracks))

  pub written-fault : sheet_fault (sheet_bytes sheet) ≡ first (row_fault space_record sheet.space 2) (content_fault sheet.tracks sheet.items)
  written-fault =
      looked-fault sheet shaped.of_space
      (record { at_tracks = λ h. looked-of-long 4 track_record _ _ shaped.of_tracks; at_items = λ t h. looked-of-long 7 item_record _ _ shaped.of_items })

  -- a shaped sheet is read back, with faults and all
  pub shaped-reads-back : sheet_at (sheet_bytes sheet) ≡ sheet
  unfolding sheet_from width
  shaped-reads-back =
      rw (
        read-space sheet shaped.of_space,
        section-rows track_section sheet.tracks tracks_at (tracks-stand sheet shaped.of_space) shaped.of_tracks,
        items-at sheet shaped.of_space,
        section-rows item_section sheet.items (items_after (length sheet.tracks)) (items-stand sheet shaped.of_space shaped.of_tracks) shaped.of_items,
      )

-- ---- what the writer goes by

module _ (space : Space) (tracks items : List Row) (looked : Looked tracks items) where
  pub content-fault : sheet_fault (sheet_bytes (sheet_of space tracks items)) ≡ content_fault tracks items
  unfolding width
  content-fault = looked-fault (sheet_of space tracks items) refl looked ∙ rw (space-fine space 2)

  -- rows without fault have the numbers that their records say
  module _ (e : content_fault tracks items ≡ fine) where
    no-faults : (tracks_fault tracks ≡ fine) × (items_fault items (items_after (length tracks)) ≡ fine)
    no-faults = fine-both (tracks_fault tracks) _ e

    pub tracks-long : EachLong 4 tracks
    unfolding width
    tracks-long = looked-tracks-long (sheet_of space tracks items) refl looked no-faults.0

    pub items-long : EachLong 7 items
    unfolding width
    items-long = looked-items-long (sheet_of space tracks items) refl looked no-faults.0 no-faults.1

    pub content-size : length (sheet_bytes (sheet_of space tracks items)) ≡ sheet_size (length tracks) (length items)
    unfolding width
    content-size = length-sheet_bytes (sheet_of space tracks items) refl tracks-long items-long
