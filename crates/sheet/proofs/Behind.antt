-- What stands behind the space of a sheet is read, and refused, without a look at the space: only its places are counted from there.
-- Assumes nothing.
use mathlib.Core.Path.{◌≡◌, ap, ◌∙◌}
use Prim.Native.Nat.{ℕ, ◌+◌}
use native.Mathlib.Omega.{arith}
use mathlib.Core.List.{List, ◌++◌}
use lib.ListN.{length}
use Rattle.sheet.specs.Rule.{two_at, track_record, item_record, rows_at, Fault, first, section_fault, section_end, space_section, track_section, item_section, tracks_at, items_at, sheet_end, sheet_from, sheet_at, over_fault, sheet_fault}
use Rattle.sheet.proofs.Accepted.{fault-in-order}
use Rattle.sheet.proofs.From.{moved_by, first-moved, section-rows-moved, section-moved, section-end-moved, over-moved}

-- ---- the tracks and items by themselves, from the count of the tracks on

abbrev pub items_behind : List ℕ → ℕ
items_behind bytes = section_end track_section bytes 0

abbrev pub fault_behind : List ℕ → Fault
fault_behind bytes =
    first (section_fault track_section bytes 0)
    (first (section_fault item_section bytes (items_behind bytes))
    (over_fault bytes (section_end item_section bytes (items_behind bytes))))

-- ---- the same behind a count and a space, `front`

module _ (front bytes : List ℕ) (long : length front ≡ tracks_at) where
  items-at : items_at (front ++ bytes) ≡ items_behind bytes + length front
  items-at = section-end-moved front bytes track_section 0 tracks_at (omega arith)

  pub fault-behind : sheet_fault (front ++ bytes) ≡ first (section_fault space_section (front ++ bytes) 0) (moved_by tracks_at (fault_behind bytes))
  fault-behind =
      let k = length front in
      fault-in-order (front ++ bytes)
      ∙ ap (first (section_fault space_section (front ++ bytes) 0))
      (first-moved k (section_fault track_section bytes 0) _ _ _ (section-moved front bytes track_section 0 tracks_at (omega arith))
      (first-moved k (section_fault item_section bytes (items_behind bytes)) _ _ _ (section-moved front bytes item_section (items_behind bytes) (items_at (front ++ bytes)) items-at)
      (over-moved front bytes _ (sheet_end (front ++ bytes)) (section-end-moved front bytes item_section (items_behind bytes) (items_at (front ++ bytes)) items-at))))
      ∙ ap (λ (places : ℕ). first (section_fault space_section (front ++ bytes) 0) (moved_by places (fault_behind bytes))) long

  pub tracks-behind : (sheet_at (front ++ bytes)).tracks ≡ rows_at track_record bytes (two_at bytes 0) 2
  unfolding sheet_from
  tracks-behind = section-rows-moved front bytes track_section 0 tracks_at (omega arith)

  pub items-behind : (sheet_at (front ++ bytes)).items ≡ rows_at item_record bytes (two_at bytes (items_behind bytes)) (items_behind bytes + 2)
  unfolding sheet_from
  items-behind = section-rows-moved front bytes item_section (items_behind bytes) (items_at (front ++ bytes)) items-at
