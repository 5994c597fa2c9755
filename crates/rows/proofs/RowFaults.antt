-- The faults of a space, a track and an item, part by part, as the code looks for them. Assumes nothing.
use mathlib.Core.Path.{◌≡◌, sym, ap}
use Prim.Native.Nat.{ℕ, ◌+◌}
use lib.ListN.{length, get_or}
use Rattle.laws.specs.Lists.{among}
use Rattle.laws.specs.Rows.{elements}
use Rattle.laws.specs.Faults.{first_fine}
use Rattle.records.specs.Rule.{Row, Tags, Fault, fault, first, unless, constraint_tags, given_tags, minimum_tags, maximum_tags, stretch_bytes, axis_bytes, space_record, track_record, item_record, tagged_fault, row_fault}

module _ (row : Row) (p : ℕ) where
  -- that of the tag at i and the number behind it, in a part at this place
  abbrev pub tag_fault : Tags → ℕ → ℕ → Fault
  tag_fault tags i at = tagged_fault tags (get_or row i 0) (get_or row (i + 1) 0) at

  pub faults-of-space : length row ≡ 6
      → first (tag_fault constraint_tags 0 p) (first (tag_fault given_tags 2 (p + 5)) (first (unless (among stretch_bytes (get_or row 4 0)) (fault 4 (p + 5 + 5))) (unless (among axis_bytes (get_or row 5 0)) (fault 4 (p + 5 + 5 + 1)))))
      ≡ row_fault space_record row p
  unfolding row_fault
  faults-of-space e = rw (← first_fine (unless (among axis_bytes (get_or row 5 0)) (fault 4 (p + 5 + 5 + 1)))) (ap (λ (r : Row). row_fault space_record r p) (sym (elements 0 6 row e)))

  pub faults-of-track : length row ≡ 4 → first (tag_fault minimum_tags 0 p) (tag_fault maximum_tags 2 (p + 5)) ≡ row_fault track_record row p
  unfolding row_fault
  faults-of-track e = rw (← first_fine (tag_fault maximum_tags 2 (p + 5))) (ap (λ (r : Row). row_fault track_record r p) (sym (elements 0 4 row e)))

  pub faults-of-item : length row ≡ 7
      → first (tag_fault given_tags 1 (p + 4)) (first (tag_fault given_tags 3 (p + 4 + 5)) (tag_fault given_tags 5 (p + 4 + 5 + 5)))
      ≡ row_fault item_record row p
  unfolding row_fault
  faults-of-item e = rw (← first_fine (tag_fault given_tags 5 (p + 4 + 5 + 5))) (ap (λ (r : Row). row_fault item_record r p) (sym (elements 0 7 row e)))
