-- The store of a board, chosen once and lent to all below: rows for what the sheet says, and the sizing's store beside them. Assumes
-- nothing.
use Rattle.std.specs.Prelude.{◌≡◌, Bool, List, ℕ, length}
use Rattle.kinds.specs.Kinds.{Row}
use Rattle.sheet.specs.Rule.{sheet_fault, read_fault}
use Rattle.lines.specs.declared.line.Line.{Line}
use Rattle.letters.specs.declared.totals.Totals.{Totals}
use Rattle.sizing.specs.Store as sizing

-- the tracks, and the items, of a small store
abbrev pub few : ℕ
few = 64

-- so many rows that reading never finds too few
pub record Store (bytes : List ℕ) (tracks items : List Row) (heads nexts : List ℕ) (lines : List Line) (increases gains rests : List ℕ) (sums : List Totals) (held : List Bool) : Type 0 where
  pub enough : read_fault bytes tracks items ≡ sheet_fault bytes
  pub of-sizing : sizing.Store tracks items heads nexts lines increases gains rests sums held

-- so many tracks and items that reading never finds too few rows
abbrev pub Enough : List ℕ → (tracks items : ℕ) → Type 0
Enough bytes tracks items = (ts is : List Row) → length ts ≡ tracks → length is ≡ items → read_fault bytes ts is ≡ sheet_fault bytes
