-- A board in which no record is at fault is sound: its space fits, and so do the tracks that the sizing reads and the items. Assumes
-- nothing.
use mathlib.Core.Path.{◌≡◌, refl}
use mathlib.Core.Bool.{Bool, true, false, ◌||◌}
use Prim.Native.Nat.{ℕ, ◌+◌, ◌≤◌}
use native.Mathlib.Omega.{arith}
use mathlib.Core.List.{List, map}
use lib.Dec.{ltb, eqb}
use lib.ListN.{length}
use borrow.Author.Tests.{ltb-false, eqb-false}
use Rattle.std.specs.Prelude.{None, Some}
use Rattle.laws.specs.Lists.{some}
use Rattle.rounds.specs.Rule.{most_dots}
use Rattle.kinds.specs.Kinds.{amount_number, constraint_number, minimum_number, maximum_number, amount_at, Amount}
use Rattle.kinds.specs.declared.constraint.Constraint.{Constraint}
use Rattle.kinds.specs.declared.constraint.Constraint.TheVariants as constraint
use Rattle.sheet_kinds.specs.declared.space.Space.{Space}
use Rattle.kinds.specs.declared.track.Minimum.{Minimum}
use Rattle.kinds.specs.declared.track.Minimum.TheVariants as minimum
use Rattle.kinds.specs.declared.track.Maximum.{Maximum}
use Rattle.kinds.specs.declared.track.Maximum.TheVariants as maximum
use Rattle.sheet_kinds.specs.Rule.{resolved}
use Rattle.sheet_kinds.specs.declared.track.SheetTrack.{SheetTrack}
use Rattle.kinds.specs.declared.item.ContributionKind.{ContributionKind}
use Rattle.kinds.specs.declared.item.ContributionKind.TheVariants as kind
use Rattle.kinds.specs.declared.item.Item.{Item}
use Rattle.records.specs.Rule.{fine, first}
use Rattle.checks.specs.Rule.{most_size, most_contribution, amount_over, constraint_over, minimum_over, maximum_over, space_over, track_over, item_over, is_outside, lowest_space, lowest_track, lowest_item, over_fault, first_of, record_fault}
use Rattle.checks.specs.Fits.{SpaceFits}
use Rattle.spanned.specs.Sound.{most_of, TrackFits, ItemFits, Sound}
use Rattle.checks.proofs.LowestRecord.{false-of-fine, none-of-fine}
use Rattle.laws.specs.Alls.{all_map, all_both, all-image}
use Rattle.laws.specs.Faults.{fine-both}

neither : (x y : Bool) → x || y ≡ false → (x ≡ false) × (y ≡ false)
neither true y e = (e, cc)
neither false y e = (refl, e)

-- ---- a number that is not over its limit

amount-le : (most : ℕ) (a : Amount) → amount_over most a ≡ false → amount_number a ≤ most
amount-le most None e = omega arith
amount-le most (Some n) e = ltb-false most n e

constraint-le : (c : Constraint) → constraint_over c ≡ false → constraint_number c ≤ most_dots
constraint-le (constraint.Definite n) e = ltb-false most_dots n e
constraint-le constraint.MinContent e = omega arith
constraint-le constraint.MaxContent e = omega arith

minimum-le : (m : Minimum) → minimum_over m ≡ false → minimum_number m ≤ most_size
minimum-le (minimum.Fixed n) e = ltb-false most_size n e
minimum-le minimum.Auto e = omega arith
minimum-le minimum.MinContent e = omega arith
minimum-le minimum.MaxContent e = omega arith

maximum-le : (m : Maximum) → maximum_over m ≡ false → maximum_number m ≤ most_of m
maximum-le (maximum.Fixed n) e = ltb-false _ n e
maximum-le maximum.Auto e = omega arith
maximum-le maximum.MinContent e = omega arith
maximum-le maximum.MaxContent e = omega arith
maximum-le (maximum.FitContent n) e = ltb-false _ n e
maximum-le (maximum.Fr n) e = ltb-false _ n e

-- ---- a record without fault

space-fits : (s : Space) → space_over s ≡ false → SpaceFits s
space-fits s e =
    let f = neither (constraint_over s.constraint) (amount_over most_dots s.inner) e in
    (constraint-le s.constraint f.0, amount-le most_dots s.inner f.1)

track-fits : (t : SheetTrack) → track_over t ≡ false → TrackFits (resolved t)
track-fits t e =
    let f = neither (minimum_over (resolved t).minimum) (maximum_over (resolved t).maximum) e in
    (minimum-le (resolved t).minimum f.0, maximum-le (resolved t).maximum f.1)

contribution-le : (i : Item) → item_over i ≡ false → (k : ContributionKind) → amount_number (amount_at i k) ≤ most_contribution
unfolding some
contribution-le i e = each
  where
    over : ContributionKind → Bool
    over k = amount_over most_contribution (amount_at i k)

    first_two : (over kind.Minimum ≡ false) × (over kind.MinContent || (over kind.MaxContent || false) ≡ false)
    first_two = neither (over kind.Minimum) _ e

    last-two : (over kind.MinContent ≡ false) × (over kind.MaxContent || false ≡ false)
    last-two = neither (over kind.MinContent) _ first_two.1

    each : (k : ContributionKind) → amount_number (amount_at i k) ≤ most_contribution
    each kind.Minimum = amount-le most_contribution (amount_at i kind.Minimum) first_two.0
    each kind.MinContent = amount-le most_contribution (amount_at i kind.MinContent) last-two.0
    each kind.MaxContent = amount-le most_contribution (amount_at i kind.MaxContent) (neither (over kind.MaxContent) false last-two.1).0

item-fits : (n : ℕ) (i : Item) → (item_over i ≡ false) × (is_outside n i ≡ false) → ItemFits n i
item-fits n i e =
    let f = neither (eqb i.span 0) (ltb n (i.start + i.span)) e.1 in
    let some-span = eqb-false i.span 0 f.0 in
    (ltb-false n (i.start + i.span) f.1, omega (arith, some-span), contribution-le i e.0)

-- ---- the board

module _ (s : Space) (ts : List SheetTrack) (is : List Item) (e : record_fault s ts is ≡ fine) where
  -- 7 found nothing, and 8 to 10 found nothing
  none-over : (lowest_space 7 space_over s ≡ fine) × (first (lowest_track 7 track_over ts) (lowest_item 7 item_over ts is) ≡ fine)
  unfolding record_fault first_of
  none-over = fine-both (lowest_space 7 space_over s) _ (fine-both (over_fault s ts is) _ e).0

  outside-none : lowest_item 8 (is_outside (length (map resolved ts))) (map resolved ts) is ≡ fine
  unfolding record_fault first_of
  outside-none = (fine-both (lowest_item 8 (is_outside (length (map resolved ts))) (map resolved ts) is) _ (fine-both (over_fault s ts is) _ e).1).0

  pub space-of-fine : SpaceFits s
  space-of-fine = space-fits s (false-of-fine (space_over s) 7 0 fine none-over.0).0

  pub sound-of-fine : Sound (map resolved ts) is
  sound-of-fine =
      let rows = fine-both (lowest_track 7 track_over ts) _ none-over.1 in
      let count = length (map resolved ts) in
      let over_none = none-of-fine 7 item_over (1 + length ts) is rows.1 in
      let outside_none = none-of-fine 8 (is_outside count) (1 + count) is outside-none in
      record {
        tracks = all-image TrackFits resolved (λ (t : SheetTrack). track_over t ≡ false) track-fits ts (none-of-fine 7 track_over 1 ts rows.0);
        items =
            all_map (λ (i : Item). (item_over i ≡ false) × (is_outside count i ≡ false)) (ItemFits count) (item-fits count) is
            (all_both (λ (i : Item). item_over i ≡ false) (λ (i : Item). is_outside count i ≡ false) is over_none outside_none);
      }
