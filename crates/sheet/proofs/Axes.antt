-- Two sheets of which one has the inline axis and the other the block axis, and that are alike in all other bytes: both have one fault or
-- none, the same tracks and items, and spaces that differ in the axis. Stated of `front`, the bytes before the axis byte, and `behind`, those
-- after it. Assumes nothing.
use mathlib.Core.Path.{◌≡◌, sym, ap, subst, ◌∙◌}
use Prim.Native.Nat.{ℕ, ◌+◌, ◌≤◌, ◌<◌}
use native.Mathlib.Omega.{arith}
use mathlib.Core.List.{List, [], ◌∷◌, ◌++◌, append_assoc}
use lib.ListN.{length, length-append, get_or-append}
use lib.Seq.{get_or-append_seam}
use borrow.Author.Tests.{eqb-true}
use Rattle.laws.specs.Faults.{first-where}
use Rattle.sheet_kinds.specs.Axes.{along}
use Rattle.sheet_kinds.specs.Kinds.{axis_byte, space_of}
use Rattle.sheet_kinds.specs.declared.axis.Axis.{Axis}
use Rattle.rows.proofs.TagCases.{axis-said}
use Rattle.sheet.specs.Rule.{byte_at, two_at, four_at, space_record, track_record, item_record, record_size, row_at, rows_at, row_fault, Fault, first, records_fault, count_fault, section_fault, space_section, tracks_at, sheet_from, sheet_at, sheet_fault}
use Rattle.sheet.proofs.Accepted.{count-fine}
use Rattle.sheet.proofs.Behind.{items_behind, fault_behind, fault-behind, tracks-behind, items-behind}
use Rattle.sheet.proofs.From.{moved_by}
use Rattle.sheet.proofs.Same.{two-same, four_same}

-- the last byte of the space
abbrev pub axis_at : ℕ
axis_at = 13

module _ (front behind : List ℕ) (long : length front ≡ axis_at) where
  -- the sheet along this axis
  abbrev pub sheet_along : Axis → List ℕ
  sheet_along axis = front ++ (axis_byte axis ∷ behind)

  -- ---- one of them

  module _ (axis : Axis) where
    byte-along : (i : ℕ) → i < axis_at → byte_at (sheet_along axis) i ≡ byte_at front i
    byte-along i h = get_or-append front (axis_byte axis ∷ behind) 0 i (omega arith)

    axis-along : byte_at (sheet_along axis) axis_at ≡ axis_byte axis
    axis-along = ap (byte_at (sheet_along axis)) (sym long) ∙ get_or-append_seam front (axis_byte axis) behind 0

    -- its count and its space
    abbrev head_along : List ℕ
    head_along = front ++ (axis_byte axis ∷ [])

    head-long : length head_along ≡ tracks_at
    unfolding record_size
    head-long = length-append front (axis_byte axis ∷ []) ∙ omega arith

    head-then : head_along ++ behind ≡ sheet_along axis
    head-then = append_assoc front (axis_byte axis ∷ []) behind

    fault-of : sheet_fault (sheet_along axis) ≡ first (section_fault space_section (sheet_along axis) 0) (moved_by tracks_at (fault_behind behind))
    fault-of =
        subst (λ (bytes : List ℕ). sheet_fault bytes ≡ first (section_fault space_section bytes 0) (moved_by tracks_at (fault_behind behind))) head-then
        (fault-behind head_along behind head-long)

    tracks-of : (sheet_at (sheet_along axis)).tracks ≡ rows_at track_record behind (two_at behind 0) 2
    tracks-of = ap (λ (bytes : List ℕ). (sheet_at bytes).tracks) (sym head-then) ∙ tracks-behind head_along behind head-long

    items_of : (sheet_at (sheet_along axis)).items ≡ rows_at item_record behind (two_at behind (items_behind behind)) (items_behind behind + 2)
    items_of = ap (λ (bytes : List ℕ). (sheet_at bytes).items) (sym head-then) ∙ items-behind head_along behind head-long

  -- ---- two of them

  module _ (a b : Axis) where
    same : (i : ℕ) → i < axis_at → byte_at (sheet_along a) i ≡ byte_at (sheet_along b) i
    same i h = byte-along a i h ∙ sym (byte-along b i h)

    long_same : length (sheet_along a) ≡ length (sheet_along b)
    long_same = length-append front (axis_byte a ∷ behind) ∙ sym (length-append front (axis_byte b ∷ behind))

    two-along : (p : ℕ) → p + 2 ≤ axis_at → two_at (sheet_along a) p ≡ two_at (sheet_along b) p
    two-along = two-same (sheet_along a) (sheet_along b) axis_at same

    four-along : (p : ℕ) → p + 4 ≤ axis_at → four_at (sheet_along a) p ≡ four_at (sheet_along b) p
    four-along = four_same (sheet_along a) (sheet_along b) axis_at same

    -- an axis byte that says an axis is listed
    row-fault-same : row_fault space_record (row_at space_record (sheet_along a) 2) 2 ≡ row_fault space_record (row_at space_record (sheet_along b) 2) 2
    unfolding row_at row_fault
    row-fault-same =
        rw (
          same 2 (omega arith),
          four-along 3 (omega arith),
          same 7 (omega arith),
          four-along 8 (omega arith),
          same 12 (omega arith),
          axis-along a,
          axis-along b,
          (axis-said a).1,
          (axis-said b).1,
        )

    record-fault-same : two_at (sheet_along a) 0 ≡ 1 → records_fault space_record (sheet_along a) (two_at (sheet_along a) 0) 2 ≡ records_fault space_record (sheet_along b) (two_at (sheet_along a) 0) 2
    unfolding records_fault
    record-fault-same one = rw (one, long_same, row-fault-same)

    -- the record is looked at only where there is one
    space-fault-same : section_fault space_section (sheet_along a) 0 ≡ section_fault space_section (sheet_along b) 0
    space-fault-same =
        first-where (count_fault space_section (sheet_along a) 0)
        (λ e. record-fault-same (eqb-true (two_at (sheet_along a) 0) 1 (count-fine space_section (sheet_along a) 0 e).allowed))
        ∙ rw (long_same, two-along 0 (omega arith))

    pub fault-along : sheet_fault (sheet_along a) ≡ sheet_fault (sheet_along b)
    fault-along = fault-of a ∙ ap (λ (f : Fault). first f (moved_by tracks_at (fault_behind behind))) space-fault-same ∙ sym (fault-of b)

    pub tracks-along : (sheet_at (sheet_along a)).tracks ≡ (sheet_at (sheet_along b)).tracks
    tracks-along = tracks-of a ∙ sym (tracks-of b)

    pub items-along : (sheet_at (sheet_along a)).items ≡ (sheet_at (sheet_along b)).items
    items-along = items_of a ∙ sym (items_of b)

    pub space-along : space_of (sheet_at (sheet_along a)).space ≡ along a (space_of (sheet_at (sheet_along b)).space)
    unfolding sheet_from row_at
    space-along =
        rw (same 2 (omega arith), four-along 3 (omega arith), same 7 (omega arith), four-along 8 (omega arith), same 12 (omega arith), axis-along a, (axis-said a).0)
