-- The rule at work where the axis has a say: a row from auto to auto beside one from 0 to 1fr, with an item on each, under min-content without an
-- inner size. The fr row is shut in the inline axis and open in the block axis; the other row keeps its min-content height in both, below its
-- limit. Assumes nothing.
use mathlib.Core.Path.{◌≡◌, refl}
use Prim.Native.Nat.{ℕ}
use mathlib.Core.Bool.{false}
use mathlib.Core.List.{List, [], ◌∷◌, flat_map, zip_with}
use Rattle.std.specs.Prelude.{None, Some}
use Rattle.laws.specs.Marks.{number}
use Rattle.laws.specs.Runs.{runs}
use Rattle.laws.specs.Sums.{sum}
use Rattle.laws.specs.Lists.{among, up_from, keep, some, every, change_at, in_turn, larger, larger_from}
use Rattle.rounds.specs.Rule.{gains_of, opens, least_room, odd_takers, hand_out, round, more, fill}
use Rattle.kinds.specs.Kinds.{Row, item}
use Rattle.kinds.specs.declared.constraint.Constraint.TheVariants.{MinContent}
use Rattle.kinds.specs.declared.item.Item.{Item}
use Rattle.sheet_kinds.specs.Kinds.{space, sheet_track}
use Rattle.sheet_kinds.specs.declared.axis.Axis.{Axis}
use Rattle.sheet_kinds.specs.declared.axis.Axis.TheVariants.{Inline, Block}
use Rattle.sheet_kinds.specs.declared.track.SheetMinimum.TheVariants as minimum
use Rattle.sheet_kinds.specs.declared.track.SheetMaximum.TheVariants as maximum
use Rattle.sheet_kinds.specs.declared.track.SheetTrack.{SheetTrack}
use Rattle.lines.specs.ByFactor.{those_factors, plainly, share_by_factor}
use Rattle.lines.specs.Fr.{fr_now, search}
use Rattle.lines.specs.Rule.{bases, measured_items, start, singles, shares, gains_by, increases, raise, batched, longer, shares_by_factor, last_batch, missing, content, maximise, search_over, bases_fr, max_content_fr, fr_for, expand, stretched, finish, size}
use Rattle.layout.specs.Rule.{layout_sizes}

abbrev rows : List SheetTrack
rows = sheet_track minimum.Auto maximum.Auto ∷ sheet_track (minimum.Fixed 0) (maximum.Fr 1000) ∷ []

abbrev item_in : ℕ → ℕ → ℕ → ℕ → Item
item_in row a b c = item row 1 (Some a ∷ Some b ∷ Some c ∷ [])

abbrev sizes_along : Axis → List Row
sizes_along axis = (layout_sizes (space MinContent None false axis) rows (item_in 0 10 20 45 ∷ item_in 1 10 20 30 ∷ [])).sizes

pub fr-row-shut-inline-open-block : (sizes_along Inline ≡ (20 ∷ 45 ∷ []) ∷ (0 ∷ 0 ∷ []) ∷ []) × (sizes_along Block ≡ (20 ∷ 45 ∷ []) ∷ (30 ∷ 0 ∷ []) ∷ [])
unfolding number runs gains_of opens least_room odd_takers hand_out round more fill sum among up_from keep some every change_at in_turn larger larger_from zip_with flat_map fr_now search bases measured_items start singles shares gains_by increases raise batched longer those_factors plainly share_by_factor shares_by_factor last_batch missing content maximise search_over bases_fr max_content_fr fr_for expand stretched finish size
fr-row-shut-inline-open-block = (refl, refl)
