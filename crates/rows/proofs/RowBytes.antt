-- The bytes of a space, a track and an item, part by part, as the code puts them. Assumes nothing.
use mathlib.Core.Path.{◌≡◌, sym, ap, ◌∙◌}
use mathlib.Core.List.{List, [], ◌∷◌, ◌++◌, append_assoc, append-nil}
use Prim.Native.Nat.{ℕ, ◌+◌}
use lib.ListN.{length, get_or}
use Rattle.laws.specs.Rows.{elements}
use Rattle.records.specs.Rule.{Row, four_bytes, space_record, track_record, item_record, row_bytes}

-- the tag at i, and the number behind it
abbrev pub tag_bytes : Row → ℕ → List ℕ
tag_bytes row i = get_or row i 0 ∷ four_bytes (get_or row (i + 1) 0)

abbrev pub pair_bytes : Row → List ℕ
pair_bytes row = four_bytes (get_or row 0 0)

module _ (row : Row) where
  pub bytes-of-space : length row ≡ 6 → ((tag_bytes row 0 ++ tag_bytes row 2) ++ (get_or row 4 0 ∷ [])) ++ (get_or row 5 0 ∷ []) ≡ row_bytes space_record row
  unfolding row_bytes
  bytes-of-space e =
      append_assoc (tag_bytes row 0 ++ tag_bytes row 2) (get_or row 4 0 ∷ []) (get_or row 5 0 ∷ [])
      ∙ append_assoc (tag_bytes row 0) (tag_bytes row 2) (get_or row 4 0 ∷ get_or row 5 0 ∷ [])
      ∙ ap (row_bytes space_record) (sym (elements 0 6 row e))

  pub bytes-of-track : length row ≡ 4 → tag_bytes row 0 ++ tag_bytes row 2 ≡ row_bytes track_record row
  unfolding row_bytes
  bytes-of-track e = ap (tag_bytes row 0 ++◌) (sym (append-nil (tag_bytes row 2))) ∙ ap (row_bytes track_record) (sym (elements 0 4 row e))

  pub bytes-of-item : length row ≡ 7 → ((pair_bytes row ++ tag_bytes row 1) ++ tag_bytes row 3) ++ tag_bytes row 5 ≡ row_bytes item_record row
  unfolding row_bytes
  bytes-of-item e =
      append_assoc (pair_bytes row ++ tag_bytes row 1) (tag_bytes row 3) (tag_bytes row 5)
      ∙ append_assoc (pair_bytes row) (tag_bytes row 1) (tag_bytes row 3 ++ tag_bytes row 5)
      ∙ ap (λ (l : List ℕ). pair_bytes row ++ (tag_bytes row 1 ++ (tag_bytes row 3 ++ l))) (sym (append-nil (tag_bytes row 5)))
      ∙ ap (row_bytes item_record) (sym (elements 0 7 row e))
