-- `put` puts an item's record: start and span, then the three contributions. Assumes nothing.
use borrow.Author.Rules.{rules}
use mathlib.Core.Path.{refl, ap, ◌∙◌}
use mathlib.Core.List.{List, ◌++◌}
use Prim.Native.Nat.{ℕ, ◌+◌, ◌≤◌}
use native.Mathlib.Omega.{arith}
use lib.ListN.{length}
use Rattle.laws.specs.Put.{put, put_then}
use Rattle.records.specs.Rule.{four_bytes, two_bytes, record_size}
use Rattle.rows.specs.Shapes.{width}
use Rattle.rows.proofs.RowBytes.{pair_bytes, tag_bytes, bytes-of-item}
use mathlib.Core.Path.{◌≡◌}
use lib.ListN.{get_or}
use Rattle.laws.specs.Rows.{firsts}
use Rattle.records.specs.Rule.{item_record, row_fault, fine}
use Rattle.rows.proofs.Listed.{are_small, parts_small, SmallTags, small-elements}
use Rattle.rows.proofs.item.ItemRowRecordRow.put.Goals as goal

small : (row : List ℕ) (at : ℕ) → length row ≡ 7 → row_fault item_record row at ≡ fine → SmallTags item_record (firsts 7 (λ (i : ℕ). get_or row i 0))
unfolding parts_small are_small
small row at l e = small-elements item_record 7 row at refl l e

pub put_tagged-requires : goal.put_tagged-requires
unfolding record_size
put_tagged-requires c = (search rules, (small c.args.self c.args.at c.well_formed.0.1.0.1 c.requires.1).0)

pub put_tagged-requires-2 : goal.put_tagged-requires-2
unfolding record_size
put_tagged-requires-2 c = (search rules, (small c.args.self c.args.at c.well_formed.0.1.0.1 c.requires.1).1.0)

pub put_tagged-requires-3 : goal.put_tagged-requires-3
unfolding record_size
put_tagged-requires-3 c = (search rules, (small c.args.self c.args.at c.well_formed.0.1.0.1 c.requires.1).1.1.0)

pub returns : goal.returns
unfolding four_bytes two_bytes width
returns c =
    let h : c.args.at ≤ length c.args.bytes.now = omega arith in
    let one = put_then c.args.at _ (pair_bytes c.args.self) (tag_bytes c.args.self 1) _ h refl c.put_four.ensures c.put_tagged.ensures in
    let two = put_then c.args.at (c.args.at + 4 + 5) (pair_bytes c.args.self ++ tag_bytes c.args.self 1) (tag_bytes c.args.self 3) _ h (omega arith) one c.put_tagged-2.ensures in
    let long = c.well_formed.0.1.0.1 in (
      put_then c.args.at (c.args.at + 4 + 5 + 5) ((pair_bytes c.args.self ++ tag_bytes c.args.self 1) ++ tag_bytes c.args.self 3) (tag_bytes c.args.self 5) _ h (omega arith) two c.put_tagged-3.ensures
          ∙ ap (λ (new : List ℕ). put c.args.at new c.args.bytes.now) (bytes-of-item c.args.self long),
      long,
    )
