-- `put` puts a track's record: its minimum, and its maximum behind it. Assumes nothing.
use borrow.Author.Rules.{rules}
use mathlib.Core.Path.{refl, ap, ◌∙◌}
use mathlib.Core.List.{List}
use Prim.Native.Nat.{ℕ, ◌≤◌}
use native.Mathlib.Omega.{arith}
use lib.ListN.{length}
use Rattle.laws.specs.Put.{put, put_then}
use Rattle.records.specs.Rule.{four_bytes, two_bytes, record_size}
use Rattle.rows.specs.Shapes.{width}
use Rattle.rows.proofs.RowBytes.{tag_bytes, bytes-of-track}
use mathlib.Core.Path.{◌≡◌}
use lib.ListN.{get_or}
use Rattle.laws.specs.Rows.{firsts}
use Rattle.records.specs.Rule.{track_record, row_fault, fine}
use Rattle.rows.proofs.Listed.{are_small, parts_small, SmallTags, small-elements}
use Rattle.rows.proofs.track.TrackRowRecordRow.put.Goals as goal

small : (row : List ℕ) (at : ℕ) → length row ≡ 4 → row_fault track_record row at ≡ fine → SmallTags track_record (firsts 4 (λ (i : ℕ). get_or row i 0))
unfolding parts_small are_small
small row at l e = small-elements track_record 4 row at refl l e

pub put_tagged-requires : goal.put_tagged-requires
unfolding record_size
put_tagged-requires c = (search rules, (small c.args.self c.args.at c.well_formed.0.1.0.1 c.requires.1).0)

pub put_tagged-requires-2 : goal.put_tagged-requires-2
unfolding record_size
put_tagged-requires-2 c = (search rules, (small c.args.self c.args.at c.well_formed.0.1.0.1 c.requires.1).1.0)

pub returns : goal.returns
unfolding four_bytes two_bytes width
returns c =
    let h : c.args.at ≤ length c.args.bytes.now = omega arith in
    let long = c.well_formed.0.1.0.1 in (
      put_then c.args.at _ (tag_bytes c.args.self 0) (tag_bytes c.args.self 2) _ h refl c.put_tagged.ensures c.put_tagged-2.ensures
          ∙ ap (λ (new : List ℕ). put c.args.at new c.args.bytes.now) (bytes-of-track c.args.self long),
      long,
    )
