-- What every line keeps while it is sized from items, and every item that takes part: sizes within the limit of a
-- contribution, spans within the board. Assumes nothing.
use Rattle.std.specs.Prelude.{ℕ, ◌+◌, ◌≤◌, ◌<◌, List}
use Rattle.laws.specs.Lists.{All}
use Rattle.kinds.specs.Kinds.{amount_number}
use Rattle.kinds.specs.declared.item.ContributionKind.{ContributionKind}
use Rattle.spanned.specs.Rule.{most_size, most_contribution}
use Rattle.spanned.specs.Sound.{TrackFits}
use Rattle.lines.specs.declared.line.Line.{Line}
use Rattle.lines.specs.declared.measured.Measured.{Measured}
use Rattle.lines.specs.Rule.{contribution_at}

-- a limit, where there is one; of none there is nothing to bound
pub record LineFits (l : Line) : Type 0 where
  pub track : TrackFits l.track
  pub base : l.base ≤ most_size
  pub limit : amount_number l.limit ≤ most_size

abbrev pub LinesFit : List Line → Type 0
LinesFit = All LineFits

-- on a board of n tracks
pub record MeasuredFits (n : ℕ) (i : Measured) : Type 0 where
  pub within : i.start + i.span ≤ n
  pub spans : 0 < i.span
  pub contributions : (k : ContributionKind) → contribution_at i k ≤ most_contribution

abbrev pub MeasuredFit : ℕ → List Measured → Type 0
MeasuredFit n = All (MeasuredFits n)
