-- A sheet's bytes, put from the front part after part: the count of spaces, the space, the tracks, the items. Assumes nothing.
use mathlib.Core.Path.{◌≡◌, refl, ap, ◌∙◌}
use Prim.Native.Nat.{ℕ, zero-le}
use native.Mathlib.Omega.{arith}
use mathlib.Core.List.{List, ◌++◌, append_assoc}
use lib.ListN.{length, length-append}
use Rattle.laws.specs.Put.{put, put_then, put_front}
use Rattle.rows.specs.Shapes.{EachLong, width}
use Rattle.std.proofs.lemmas.List.{map-id}
use Rattle.rows.proofs.KindRows.{space-fine}
use Rattle.sheet.specs.Rule.{Row, record_size, space_record, track_record, item_record, two_bytes, four_bytes, row_bytes, tracks_at, sheet_bytes, onto}
use Rattle.sheet_kinds.specs.Kinds.{space_row}
use Rattle.sheet.specs.Answer.{sheet_of}
use Rattle.sheet.specs.Content.{section_bytes, items_after}
use Rattle.sheet_kinds.specs.declared.space.Space.{Space}
use Rattle.sheet.proofs.SectionBytes.{length-section_bytes}

module _ (space : Space) (tracks items : List Row) where
  -- the count of spaces, and the space
  front : List ℕ
  front = two_bytes 1 ++ row_bytes space_record (space_row space)

  length_front : length front ≡ tracks_at
  unfolding front row_bytes four_bytes two_bytes record_size
  length_front = refl

  parts-of-sheet : (front ++ section_bytes track_record tracks) ++ section_bytes item_record items ≡ sheet_bytes (sheet_of space tracks items)
  unfolding front sheet_bytes
  parts-of-sheet = simp append_assoc

  length-to-items : EachLong 4 tracks → length (front ++ section_bytes track_record tracks) ≡ items_after (length tracks)
  unfolding record_size width
  length-to-items long = rw (length-append, length_front, length-section_bytes track_record tracks long) (omega arith)

  pub put-parts : (lent : List ℕ) {b₁ b₂ b₃ b₄ : List ℕ} → EachLong 4 tracks → b₁ ≡ put 0 (two_bytes 1) lent → b₂ ≡ put 2 (row_bytes space_record (space_row space)) b₁
      → b₃ ≡ put tracks_at (section_bytes track_record tracks) b₂ → b₄ ≡ put (items_after (length tracks)) (section_bytes item_record items) b₃
      → b₄ ≡ onto (sheet_bytes (sheet_of space tracks items)) lent
  unfolding front two_bytes
  put-parts lent long e₁ e₂ e₃ e₄ =
      let two = put_then 0 2 (two_bytes 1) (row_bytes space_record (space_row space)) lent zero-le refl e₁ e₂ in
      let three = put_then 0 tracks_at front (section_bytes track_record tracks) lent zero-le (omega (arith, length_front)) two e₃ in
      let four = put_then 0 (items_after (length tracks)) (front ++ section_bytes track_record tracks) (section_bytes item_record items) lent zero-le (omega (arith, length-to-items long)) three e₄ in
      four ∙ ap (λ (new : List ℕ). put 0 new lent) parts-of-sheet ∙ put_front (sheet_bytes (sheet_of space tracks items)) lent

-- for the check of `put_sheet`
pub ruleset parts = (put-parts, space-fine, map-id)
