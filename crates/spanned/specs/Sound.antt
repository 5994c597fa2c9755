-- What a board without fault gives to who sizes it: every number within its limit, and every item on tracks that are there.
-- Assumes nothing.
use Rattle.std.specs.Prelude.{ℕ, ◌+◌, ◌≤◌, ◌<◌, List, length}
use Rattle.laws.specs.Lists.{All}
use Rattle.rounds.specs.Rule.{most_dots}
use Rattle.kinds.specs.Kinds.{amount_number, constraint_number, minimum_number, maximum_number, amount_at}
use Rattle.kinds.specs.declared.constraint.Constraint.{Constraint}
use Rattle.kinds.specs.declared.track.Maximum.{Maximum}
use Rattle.kinds.specs.declared.track.Maximum.TheVariants as maximum
use Rattle.kinds.specs.declared.track.Track.{Track}
use Rattle.kinds.specs.declared.item.ContributionKind.{ContributionKind}
use Rattle.kinds.specs.declared.item.Item.{Item}
use Rattle.spanned.specs.Rule.{most_size, most_factor, most_contribution}

-- the limit of a maximum's number
abbrev pub most_of : Maximum → ℕ
most_of (maximum.Fixed n) = most_size
most_of maximum.Auto = most_size
most_of maximum.MinContent = most_size
most_of maximum.MaxContent = most_size
most_of (maximum.FitContent n) = most_size
most_of (maximum.Fr n) = most_factor

-- of the constraint, and of the expansion space
abbrev pub ConstraintFits : Constraint → Type 0
ConstraintFits c = constraint_number c ≤ most_dots

abbrev pub TrackFits : Track → Type 0
TrackFits t = (minimum_number t.minimum ≤ most_size) × (maximum_number t.maximum ≤ most_of t.maximum)

-- on a board of n tracks
abbrev pub ItemFits : ℕ → Item → Type 0
ItemFits n i =
    (i.start + i.span ≤ n)
    × (0 < i.span)
    × ((k : ContributionKind) → amount_number (amount_at i k) ≤ most_contribution)

pub record Sound (ts : List Track) (is : List Item) : Type 0 where
  pub tracks : All TrackFits ts
  pub items : All (ItemFits (length ts)) is
