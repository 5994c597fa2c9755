-- The working store of a sizing, whole and as steps 5 to 7 find it. Assumes nothing.
use Rattle.std.specs.Prelude.{◌≡◌, Bool, List, ℕ, ◌≤◌, length}
use Rattle.rounds.specs.Rule.{most_tracks}
use Rattle.kinds.specs.Kinds.{Row}
use Rattle.lines.specs.declared.line.Line.{Line}
use Rattle.letters.specs.declared.totals.Totals.{Totals}
use Rattle.lines.specs.Fits.{LinesFit}
use Rattle.letters.specs.Increases.{NoIncrease}
use Rattle.content.specs.Store as content
use Rattle.sizing.specs.Size.{BasesFit}

-- that of steps 1 to 4, and beside each track a mark for the fr search
pub record Store (tracks items : List Row) (heads nexts : List ℕ) (lines : List Line) (increases gains rests : List ℕ) (sums : List Totals) (held : List Bool) : Type 0 where
  pub of-content : content.Store tracks items heads nexts lines increases gains rests sums
  pub held-long : length held ≡ length tracks

-- where dots are filled into bases, in steps 5 and 7
pub record Filling (lines : List Line) (increases rests : List ℕ) : Type 0 where
  pub few : length lines ≤ most_tracks
  pub bases-fit : BasesFit lines
  pub none : NoIncrease lines increases
  pub rests-long : length rests ≡ length lines

-- behind step 5
pub record Finishing (lines : List Line) (increases rests : List ℕ) (held : List Bool) (sizes : List Row) : Type 0 where
  pub few : length lines ≤ most_tracks
  pub fit : LinesFit lines
  pub none : NoIncrease lines increases
  pub rests-long : length rests ≡ length lines
  pub held-long : length held ≡ length lines
  pub sizes-long : length sizes ≡ length lines
