-- Numbers 7 to 10 of the build paper's table, in their order: which record of a board is at fault, and for what. This page goes
-- by what a sheet says of its space, tracks and items, and it computes; what an item spans has the page before it,
-- `crates/spanned/specs/Rule.antt`, whose names it hands on. It assumes nothing of the code.
use Rattle.std.specs.Prelude.{ℕ, ◌+◌, Bool, false, cond, ◌&&◌, ◌||◌, List, [], ◌∷◌, map, ltb, eqb, length, None, Some}
use Rattle.laws.specs.Lists.{some}
use Rattle.rounds.specs.Rule.{most_dots}
use Rattle.kinds.specs.Kinds.{amount_at, falls, Amount}
use Rattle.kinds.specs.declared.constraint.Constraint.{Constraint}
use Rattle.kinds.specs.declared.constraint.Constraint.TheVariants as constraint
use Rattle.kinds.specs.declared.track.Minimum.{Minimum}
use Rattle.kinds.specs.declared.track.Minimum.TheVariants as minimum
use Rattle.kinds.specs.declared.track.Maximum.{Maximum}
use Rattle.kinds.specs.declared.track.Maximum.TheVariants as maximum
use Rattle.kinds.specs.declared.track.Track.{Track}
use Rattle.kinds.specs.declared.item.ContributionKind.{ContributionKind}
use Rattle.kinds.specs.declared.item.Item.{Item}
use Rattle.sheet_kinds.specs.Rule.{resolved}
use Rattle.sheet_kinds.specs.declared.space.Space.{Space}
use Rattle.sheet_kinds.specs.declared.track.SheetTrack.{SheetTrack}
use Rattle.records.specs.Rule.{Fault, fine, fault, first}
pub use Rattle.spanned.specs.Rule.{most_size, most_factor, most_contribution, spanned, is_fixed_minimum, is_fixed_maximum, is_fixed, is_unfixed, is_measured, contribution_kinds, is_absent, lacks_contribution}

-- ---- 7: a number is over its limit. What is absent is no number

abbrev pub amount_over : ℕ → Amount → Bool
amount_over most None = false
amount_over most (Some n) = ltb most n

abbrev pub constraint_over : Constraint → Bool
constraint_over (constraint.Definite n) = ltb most_dots n
constraint_over constraint.MinContent = false
constraint_over constraint.MaxContent = false

abbrev pub minimum_over : Minimum → Bool
minimum_over (minimum.Fixed n) = ltb most_size n
minimum_over minimum.Auto = false
minimum_over minimum.MinContent = false
minimum_over minimum.MaxContent = false

abbrev pub maximum_over : Maximum → Bool
maximum_over (maximum.Fixed n) = ltb most_size n
maximum_over maximum.Auto = false
maximum_over maximum.MinContent = false
maximum_over maximum.MaxContent = false
maximum_over (maximum.FitContent n) = ltb most_size n
maximum_over (maximum.Fr n) = ltb most_factor n

abbrev pub space_over : Space → Bool
space_over s = constraint_over s.constraint || amount_over most_dots s.inner

-- a track's numbers, as the sizing reads them
abbrev pub track_over : SheetTrack → Bool
track_over t = minimum_over (resolved t).minimum || maximum_over (resolved t).maximum

abbrev pub item_over : Item → Bool
item_over i = some (λ (k : ContributionKind). amount_over most_contribution (amount_at i k)) contribution_kinds

-- ---- 8: span 0, or past the last of n tracks

abbrev pub is_outside : ℕ → Item → Bool
is_outside n i = eqb i.span 0 || ltb n (i.start + i.span)

-- ---- 9: a measured item lacks a contribution

abbrev pub is_lacking : List Track → Item → Bool
is_lacking ts i = is_measured ts i && lacks_contribution i

-- ---- 10: a measured item's row falls

abbrev pub is_falling : List Track → Item → Bool
is_falling ts i = is_measured ts i && falls i

-- ---- The lowest record at fault

-- of these, whose first is the record `place`
unfoldable pub lowest : {A : Type 0} → (number : ℕ) → (A → Bool) → (place : ℕ) → List A → Fault
lowest number bad place [] = fine
lowest number bad place (x ∷ xs) = cond (bad x) (fault number place) (lowest number bad (place + 1) xs)

-- space is record 0, track t is 1 + t, item i is 1 + tracks + i
abbrev pub lowest_space : ℕ → (Space → Bool) → Space → Fault
lowest_space number bad s = cond (bad s) (fault number 0) fine

abbrev pub lowest_track : {T : Type 0} → ℕ → (T → Bool) → List T → Fault
lowest_track number bad ts = lowest number bad 1 ts

abbrev pub lowest_item : {T : Type 0} → ℕ → (Item → Bool) → List T → List Item → Fault
lowest_item number bad ts is = lowest number bad (1 + length ts) is

-- ---- The checks, by number

-- 7, of any record
abbrev pub over_fault : Space → List SheetTrack → List Item → Fault
over_fault s ts is = first (lowest_space 7 space_over s) (first (lowest_track 7 track_over ts) (lowest_item 7 item_over ts is))

-- 8 to 10, of items on the tracks that the sizing reads
abbrev pub item_checks : List Track → List Item → List Fault
item_checks ts is =
    lowest_item 8 (is_outside (length ts)) ts is
    ∷ lowest_item 9 (is_lacking ts) ts is
    ∷ lowest_item 10 (is_falling ts) ts is
    ∷ []

abbrev pub record_checks : Space → List SheetTrack → List Item → List Fault
record_checks s ts is = over_fault s ts is ∷ item_checks (map resolved ts) is

unfoldable pub first_of : List Fault → Fault
first_of [] = fine
first_of (f ∷ fs) = first f (first_of fs)

unfoldable pub record_fault : Space → List SheetTrack → List Item → Fault
record_fault s ts is = first_of (record_checks s ts is)
