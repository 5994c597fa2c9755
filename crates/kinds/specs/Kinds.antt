-- The kinds that the sizing reads, and the rows that say them. A tag tells absent from given; no number does. Assumes nothing.
use Rattle.std.specs.Prelude.{ℕ, ◌+◌, ◌*◌, ◌/◌, ◌%◌, Bool, false, cond, ◌||◌, List, [], ◌∷◌, Option, Some, None, ltb, eqb, get_or}
use Rattle.kinds.specs.declared.constraint.Constraint.{Constraint}
use Rattle.kinds.specs.declared.constraint.Constraint.TheVariants as constraint
use Rattle.kinds.specs.declared.track.Minimum.{Minimum}
use Rattle.kinds.specs.declared.track.Minimum.TheVariants as minimum
use Rattle.kinds.specs.declared.track.Maximum.{Maximum}
use Rattle.kinds.specs.declared.track.Maximum.TheVariants as maximum
use Rattle.kinds.specs.declared.track.Track.{Track}
use Rattle.kinds.specs.declared.item.ContributionKind.{ContributionKind}
use Rattle.kinds.specs.declared.item.ContributionKind.TheVariants as kind
use Rattle.kinds.specs.declared.item.Item.{Item}

-- a row: the numbers of a record, in order
abbrev pub Row : Type 0
Row = List ℕ

-- ---- A number that may be missing

abbrev pub Amount : Type 0
Amount = Option ℕ

abbrev pub amount_tag : Amount → ℕ
amount_tag None = 0
amount_tag (Some n) = 1

abbrev pub amount_number : Amount → ℕ
amount_number None = 0
amount_number (Some n) = n

abbrev pub amount_of : ℕ → ℕ → Amount
amount_of tag n = cond (eqb tag 1) (Some n) None

-- both are given, and the later is below the earlier
abbrev pub above : Amount → Amount → Bool
above (Some x) (Some y) = ltb y x
above (Some x) None = false
above None later = false

-- ---- What the space asks of the board

abbrev pub constraint_tag : Constraint → ℕ
constraint_tag (constraint.Definite n) = 1
constraint_tag constraint.MinContent = 2
constraint_tag constraint.MaxContent = 3

abbrev pub constraint_number : Constraint → ℕ
constraint_number (constraint.Definite n) = n
constraint_number constraint.MinContent = 0
constraint_number constraint.MaxContent = 0

abbrev pub constraint_of : ℕ → ℕ → Constraint
constraint_of tag n = cond (eqb tag 1) (constraint.Definite n) (cond (eqb tag 2) constraint.MinContent constraint.MaxContent)

-- ---- A track

abbrev pub track : Minimum → Maximum → Track
track minimum maximum = record { minimum = minimum; maximum = maximum }

abbrev pub minimum_tag : Minimum → ℕ
minimum_tag (minimum.Fixed n) = 1
minimum_tag minimum.Auto = 2
minimum_tag minimum.MinContent = 3
minimum_tag minimum.MaxContent = 4

abbrev pub minimum_number : Minimum → ℕ
minimum_number (minimum.Fixed n) = n
minimum_number minimum.Auto = 0
minimum_number minimum.MinContent = 0
minimum_number minimum.MaxContent = 0

abbrev pub minimum_of : ℕ → ℕ → Minimum
minimum_of tag n =
    cond (eqb tag 1) (minimum.Fixed n)
    (cond (eqb tag 2) minimum.Auto
    (cond (eqb tag 3) minimum.MinContent minimum.MaxContent))

abbrev pub maximum_tag : Maximum → ℕ
maximum_tag (maximum.Fixed n) = 1
maximum_tag maximum.Auto = 2
maximum_tag maximum.MinContent = 3
maximum_tag maximum.MaxContent = 4
maximum_tag (maximum.FitContent n) = 5
maximum_tag (maximum.Fr n) = 6

abbrev pub maximum_number : Maximum → ℕ
maximum_number (maximum.Fixed n) = n
maximum_number maximum.Auto = 0
maximum_number maximum.MinContent = 0
maximum_number maximum.MaxContent = 0
maximum_number (maximum.FitContent n) = n
maximum_number (maximum.Fr n) = n

abbrev pub maximum_of : ℕ → ℕ → Maximum
maximum_of tag n =
    cond (eqb tag 1) (maximum.Fixed n)
    (cond (eqb tag 2) maximum.Auto
    (cond (eqb tag 3) maximum.MinContent
    (cond (eqb tag 4) maximum.MaxContent
    (cond (eqb tag 5) (maximum.FitContent n) (maximum.Fr n)))))

abbrev pub track_of : Row → Track
track_of row = track (minimum_of (get_or row 0 0) (get_or row 1 0)) (maximum_of (get_or row 2 0) (get_or row 3 0))

-- ---- An item: its start and span are the halves of its row's first number

abbrev pub item : ℕ → ℕ → List Amount → Item
item start span row = record { start = start; span = span; row = row }

abbrev pub kind_index : ContributionKind → ℕ
kind_index kind.Minimum = 0
kind_index kind.MinContent = 1
kind_index kind.MaxContent = 2

abbrev pub amount_at : Item → ContributionKind → Amount
amount_at i k = get_or i.row (kind_index k) None

abbrev pub item_row : Item → Row
item_row i =
    (i.start + 65536 * i.span)
    ∷ amount_tag (amount_at i kind.Minimum) ∷ amount_number (amount_at i kind.Minimum)
    ∷ amount_tag (amount_at i kind.MinContent) ∷ amount_number (amount_at i kind.MinContent)
    ∷ amount_tag (amount_at i kind.MaxContent) ∷ amount_number (amount_at i kind.MaxContent) ∷ []

abbrev pub item_of : Row → Item
item_of row =
    item (get_or row 0 0 % 65536) (get_or row 0 0 / 65536)
    (amount_of (get_or row 1 0) (get_or row 2 0) ∷ amount_of (get_or row 3 0) (get_or row 4 0) ∷ amount_of (get_or row 5 0) (get_or row 6 0) ∷ [])

-- a given contribution is below an earlier given one
abbrev pub falls : Item → Bool
falls i =
    above (amount_at i kind.Minimum) (amount_at i kind.MinContent)
    || (above (amount_at i kind.MinContent) (amount_at i kind.MaxContent) || above (amount_at i kind.Minimum) (amount_at i kind.MaxContent))
