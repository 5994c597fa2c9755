-- The rule at work on small boards of one or two tracks and an item. Assumes nothing.
use mathlib.Core.Path.{◌≡◌, refl}
use Prim.Native.Nat.{ℕ}
use mathlib.Core.List.{List, [], ◌∷◌}
use Rattle.std.specs.Prelude.{None, Some}
use Rattle.laws.specs.Lists.{some}
use Rattle.kinds.specs.Kinds.{item, Amount}
use Rattle.sheet_kinds.specs.Kinds.{space, sheet_track}
use Rattle.kinds.specs.declared.constraint.Constraint.TheVariants as constraint
use Rattle.sheet_kinds.specs.declared.axis.Axis.TheVariants.{Inline}
use Rattle.sheet_kinds.specs.declared.space.Space.{Space}
use Rattle.sheet_kinds.specs.declared.track.SheetMinimum.TheVariants as minimum
use Rattle.sheet_kinds.specs.declared.track.SheetMaximum.TheVariants as maximum
use Rattle.sheet_kinds.specs.declared.track.SheetTrack.{SheetTrack}
use Rattle.kinds.specs.declared.item.Item.{Item}
use Rattle.records.specs.Rule.{Fault, fine, fault}
use Rattle.checks.specs.Rule.{lowest, first_of, record_fault}
use mathlib.Core.Bool.{false}

abbrev hundred : Space
hundred = space (constraint.Definite 100) (Some 100) false Inline

abbrev auto : SheetTrack
auto = sheet_track minimum.Auto maximum.Auto

abbrev fixed_to : ℕ → SheetTrack
fixed_to n = sheet_track (minimum.Fixed n) (maximum.Fixed n)

abbrev fr : ℕ → SheetTrack
fr factor = sheet_track minimum.Auto (maximum.Fr factor)

abbrev item_on : ℕ → ℕ → Amount → Amount → Amount → Item
item_on start span a b c = item start span (a ∷ b ∷ c ∷ [])

abbrev check : List SheetTrack → Item → Fault
check ts i = record_fault hundred ts (i ∷ [])

-- W12
pub minmax-auto-zero-fine : check (sheet_track minimum.Auto (maximum.Fixed 0) ∷ []) (item_on 0 1 (Some 30) (Some 30) (Some 30)) ≡ fine
unfolding record_fault first_of lowest some
minmax-auto-zero-fine = refl

-- an absent contribution, on an auto track and on a fixed one
pub absent-on-auto : check (auto ∷ []) (item_on 0 1 (Some 30) None (Some 30)) ≡ fault 9 2
unfolding record_fault first_of lowest some
absent-on-auto = refl

pub absent-on-fixed : check (fixed_to 10 ∷ []) (item_on 0 1 (Some 30) None (Some 30)) ≡ fine
unfolding record_fault first_of lowest some
absent-on-fixed = refl

-- both sides of 65,535
pub size-at-limit : check (fixed_to 65535 ∷ []) (item_on 0 1 (Some 65535) None None) ≡ fine
unfolding record_fault first_of lowest some
size-at-limit = refl

pub size-over-limit : check (fixed_to 10 ∷ fixed_to 65536 ∷ []) (item_on 0 1 None None None) ≡ fault 7 2
unfolding record_fault first_of lowest some
size-over-limit = refl

-- also of an item that is not measured
pub contribution-over-limit : check (fixed_to 10 ∷ []) (item_on 0 1 None None (Some 65536)) ≡ fault 7 2
unfolding record_fault first_of lowest some
contribution-over-limit = refl

-- both sides of the last track
pub on-last-track : check (auto ∷ auto ∷ []) (item_on 1 1 (Some 1) (Some 2) (Some 3)) ≡ fine
unfolding record_fault first_of lowest some
on-last-track = refl

pub past-last-track : check (auto ∷ auto ∷ []) (item_on 1 2 (Some 1) (Some 2) (Some 3)) ≡ fault 8 3
unfolding record_fault first_of lowest some
past-last-track = refl

pub row-falls : check (auto ∷ []) (item_on 0 1 (Some 1) (Some 3) (Some 2)) ≡ fault 10 2
unfolding record_fault first_of lowest some
row-falls = refl

-- an fr track is spanned like any other: in a span of 1, and in a span of 2
pub one-fr-track : check (fr 1000 ∷ auto ∷ []) (item_on 0 1 (Some 1) (Some 2) (Some 3)) ≡ fine
unfolding record_fault first_of lowest some
one-fr-track = refl

pub span-crosses-fr : check (fr 1000 ∷ auto ∷ []) (item_on 0 2 (Some 1) (Some 2) (Some 3)) ≡ fine
unfolding record_fault first_of lowest some
span-crosses-fr = refl
