-- An item at work as the code makes it: none from one that lacks a contribution. Assumes nothing.
use Rattle.std.specs.Prelude.{Option, Some, None, List, [], ◌∷◌}
use Rattle.kinds.specs.Kinds.{amount_number, amount_at}
use Rattle.kinds.specs.declared.item.ContributionKind.TheVariants as kind
use Rattle.kinds.specs.declared.item.Item.{Item}
use Rattle.lines.specs.declared.measured.Measured.{Measured}

abbrev pub measured_of : Item → Measured
measured_of i =
    record {
      start = i.start;
      span = i.span;
      row = amount_number (amount_at i kind.Minimum) ∷ amount_number (amount_at i kind.MinContent) ∷ amount_number (amount_at i kind.MaxContent) ∷ [];
    }

-- what takes part
abbrev pub given : Option Measured → List Measured
given (Some m) = m ∷ []
given None = []
