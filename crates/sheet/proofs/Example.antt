-- The rule at work on W12: 100 dots with an inner size of 100, a track from auto to 0, an item of 30, 30, 30. Its bytes stand in the table of
-- the marked examples, and here are those that the rule writes. Assumes nothing.
use mathlib.Core.Path.{◌≡◌, refl}
use mathlib.Core.Bool.{false}
use mathlib.Core.List.{[], ◌∷◌, ◌++◌}
use lib.ListN.{length}
use Rattle.std.specs.Prelude.{Some}
use Rattle.laws.specs.Lists.{among}
use Rattle.kinds.specs.declared.constraint.Constraint.TheVariants.{Definite}
use Rattle.sheet_kinds.specs.Kinds.{space, space_row}
use Rattle.sheet_kinds.specs.declared.axis.Axis.TheVariants.{Inline}
use Rattle.sheet.specs.Rule.{record_size, row_at, rows_at, row_bytes, rows_bytes, two_bytes, four_bytes, tagged_fault, row_fault, records_fault, fine, fault, Sheet, sheet_bytes, sheet_from, sheet_at, fault_from, sheet_fault}

abbrev w12 : Sheet
w12 =
    record {
      space = space_row (space (Definite 100) (Some 100) false Inline);
      tracks = (2 ∷ 0 ∷ 1 ∷ 0 ∷ []) ∷ [];
      items = (65536 ∷ 1 ∷ 30 ∷ 1 ∷ 30 ∷ 1 ∷ 30 ∷ []) ∷ [];
    }

pub w12-has-no-fault : sheet_fault (sheet_bytes w12) ≡ fine
unfolding sheet_bytes rows_bytes row_bytes four_bytes two_bytes sheet_fault fault_from records_fault row_fault tagged_fault among row_at record_size
w12-has-no-fault = refl

pub w12-says : sheet_at (sheet_bytes w12) ≡ w12
unfolding sheet_bytes rows_bytes row_bytes four_bytes two_bytes sheet_from rows_at row_at record_size
w12-says = refl

-- one byte more is one byte over
pub w12-and-one-more : sheet_fault (sheet_bytes w12 ++ (0 ∷ [])) ≡ fault 2 (length (sheet_bytes w12))
unfolding sheet_bytes rows_bytes row_bytes four_bytes two_bytes sheet_fault fault_from records_fault row_fault tagged_fault among row_at record_size
w12-and-one-more = refl
