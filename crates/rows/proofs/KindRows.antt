-- A space, a track and an item and their rows give each other back, where the row has no fault; and their rows have none. So a row
-- without fault says one of them and no other. Of an item it assumes three contributions and a start of two bytes.
use mathlib.Core.Path.{◌≡◌, sym, subst}
use Prim.Native.Nat.{ℕ, ◌+◌, ◌<◌}
use native.Mathlib.Nat.{mod-add-div}
use mathlib.Core.List.{List}
use lib.ListN.{length, get_or}
use Rattle.std.specs.Prelude.{None}
use Rattle.laws.specs.Rows.{firsts, elements}
use Rattle.laws.specs.Lists.{among}
use Rattle.laws.specs.Faults.{fine-both, fine-test}
use Rattle.records.specs.Rule.{Row, Part, constraint_tags, given_tags, minimum_tags, maximum_tags, stretch_bytes, axis_bytes, space_record, track_record, item_record, tagged_fault, row_fault, fine, fault, unless}
use Rattle.rows.specs.Shapes.{width}
use Rattle.kinds.specs.Kinds.{amount_at, item_row, item_of}
use Rattle.sheet_kinds.specs.Kinds.{space_row, space_of, sheet_track_row, sheet_track_of}
use Rattle.sheet_kinds.specs.declared.space.Space.{Space}
use Rattle.sheet_kinds.specs.declared.track.SheetTrack.{SheetTrack}
use Rattle.kinds.specs.declared.item.ContributionKind.TheVariants as kind
use Rattle.kinds.specs.declared.item.Item.{Item}
use Rattle.records.proofs.LittleEndian.{mod-of-halves, div-of-halves}
use Rattle.rows.proofs.TagCases.{constraint-said, constraint-kept, amount-said, amount-kept, minimum-said, minimum-kept, maximum-said, maximum-kept, bit-said, bit_kept, axis-said, axis-kept}

-- a row of known length without fault has none where it is written out
fine-elements : (parts : List Part) (n : ℕ) (row : Row) (p : ℕ) → length row ≡ n → row_fault parts row p ≡ fine → row_fault parts (firsts n (λ i. get_or row i 0)) p ≡ fine
fine-elements parts n row p l e = subst (λ (r : Row). row_fault parts r p ≡ fine) (elements 0 n row l) e

-- ---- the space

pub space-of-row : (s : Space) → space_of (space_row s) ≡ s
space-of-row s = rw ((constraint-said s.constraint).0, (amount-said s.inner).0, (bit-said s.stretch).0, (axis-said s.axis).0)

pub space-fine : (s : Space) (p : ℕ) → row_fault space_record (space_row s) p ≡ fine
unfolding row_fault
space-fine s p = rw ((constraint-said s.constraint).1 p, (amount-said s.inner).1 (p + 5), (bit-said s.stretch).1, (axis-said s.axis).1)

pub row-of-space : (row : Row) (p : ℕ) → length row ≡ width space_record → row_fault space_record row p ≡ fine → space_row (space_of row) ≡ row
unfolding row_fault width
row-of-space row p l e =
    let x = fine-both (tagged_fault constraint_tags (get_or row 0 0) (get_or row 1 0) p) _ (fine-elements space_record 6 row p l e) in
    let y = fine-both (tagged_fault given_tags (get_or row 2 0) (get_or row 3 0) (p + 5)) _ x.1 in
    let z = fine-both (unless (among stretch_bytes (get_or row 4 0)) (fault 4 (p + 5 + 5))) _ y.1 in
    let w = fine-both (unless (among axis_bytes (get_or row 5 0)) (fault 4 (p + 5 + 5 + 1))) _ z.1 in
    let constraint = constraint-kept _ _ p x.0 in
    let inner = amount-kept _ _ (p + 5) y.0 in
    let stretch = bit_kept _ (fine-test (among stretch_bytes (get_or row 4 0)) _ _ z.0) in
    let axis = axis-kept _ (fine-test (among axis_bytes (get_or row 5 0)) _ _ w.0) in
    rw (constraint.0, constraint.1, inner.0, inner.1, stretch, axis) (sym (elements 0 6 row l))

-- ---- a track

pub track-of-row : (t : SheetTrack) → sheet_track_of (sheet_track_row t) ≡ t
track-of-row t = rw ((minimum-said t.minimum).0, (maximum-said t.maximum).0)

pub track-fine : (t : SheetTrack) (p : ℕ) → row_fault track_record (sheet_track_row t) p ≡ fine
unfolding row_fault
track-fine t p = rw ((minimum-said t.minimum).1 p, (maximum-said t.maximum).1 (p + 5))

pub row-of-track : (row : Row) (p : ℕ) → length row ≡ width track_record → row_fault track_record row p ≡ fine → sheet_track_row (sheet_track_of row) ≡ row
unfolding row_fault width
row-of-track row p l e =
    let x = fine-both (tagged_fault minimum_tags (get_or row 0 0) (get_or row 1 0) p) _ (fine-elements track_record 4 row p l e) in
    let y = fine-both (tagged_fault maximum_tags (get_or row 2 0) (get_or row 3 0) (p + 5)) _ x.1 in
    let minimum = minimum-kept _ _ p x.0 in
    let maximum = maximum-kept _ _ (p + 5) y.0 in
    rw (minimum.0, minimum.1, maximum.0, maximum.1) (sym (elements 0 4 row l))

-- ---- an item

pub item-of-row : (i : Item) → length i.row ≡ 3 → i.start < 65536 → item_of (item_row i) ≡ i
item-of-row i l h =
    rw (
      mod-of-halves i.start i.span 65536 h,
      div-of-halves i.start i.span 65536 h,
      (amount-said (amount_at i kind.Minimum)).0,
      (amount-said (amount_at i kind.MinContent)).0,
      (amount-said (amount_at i kind.MaxContent)).0,
      ← elements None 3 i.row l,
    )

pub item-fine : (i : Item) (p : ℕ) → row_fault item_record (item_row i) p ≡ fine
unfolding row_fault
item-fine i p =
    rw (
      (amount-said (amount_at i kind.Minimum)).1 (p + 4),
      (amount-said (amount_at i kind.MinContent)).1 (p + 4 + 5),
      (amount-said (amount_at i kind.MaxContent)).1 (p + 4 + 5 + 5),
    )

pub row-of-item : (row : Row) (p : ℕ) → length row ≡ width item_record → row_fault item_record row p ≡ fine → item_row (item_of row) ≡ row
unfolding row_fault width
row-of-item row p l e =
    let x = fine-both (tagged_fault given_tags (get_or row 1 0) (get_or row 2 0) (p + 4)) _ (fine-elements item_record 7 row p l e) in
    let y = fine-both (tagged_fault given_tags (get_or row 3 0) (get_or row 4 0) (p + 4 + 5)) _ x.1 in
    let z = fine-both (tagged_fault given_tags (get_or row 5 0) (get_or row 6 0) (p + 4 + 5 + 5)) _ y.1 in
    let a = amount-kept _ _ (p + 4) x.0 in
    let b = amount-kept _ _ (p + 4 + 5) y.0 in
    let c = amount-kept _ _ (p + 4 + 5 + 5) z.0 in
    rw (mod-add-div (get_or row 0 0) 65536, a.0, a.1, b.0, b.1, c.0, c.1) (sym (elements 0 7 row l))
