-- What a sheet says of its space and of a track, and the rows that say it. A tag tells absent from given; no number does. Assumes
-- nothing.
use Rattle.std.specs.Prelude.{ℕ, Bool, cond, [], ◌∷◌, eqb, get_or}
use Rattle.laws.specs.Marks.{bit}
use Rattle.kinds.specs.Kinds.{Row, Amount, amount_tag, amount_number, amount_of, constraint_tag, constraint_number, constraint_of}
use Rattle.kinds.specs.declared.constraint.Constraint.{Constraint}
use Rattle.sheet_kinds.specs.declared.axis.Axis.{Axis}
use Rattle.sheet_kinds.specs.declared.axis.Axis.TheVariants.{Inline, Block}
use Rattle.sheet_kinds.specs.declared.space.Space.{Space}
use Rattle.sheet_kinds.specs.declared.track.SheetMinimum.{SheetMinimum}
use Rattle.sheet_kinds.specs.declared.track.SheetMinimum.TheVariants as minimum
use Rattle.sheet_kinds.specs.declared.track.SheetMaximum.{SheetMaximum}
use Rattle.sheet_kinds.specs.declared.track.SheetMaximum.TheVariants as maximum
use Rattle.sheet_kinds.specs.declared.track.SheetTrack.{SheetTrack}

-- ---- The space

abbrev pub axis_byte : Axis → ℕ
axis_byte Inline = 0
axis_byte Block = 1

abbrev pub axis_of : ℕ → Axis
axis_of n = cond (eqb n 1) Block Inline

abbrev pub space : Constraint → Amount → Bool → Axis → Space
space constraint inner stretch axis = record { constraint = constraint; inner = inner; stretch = stretch; axis = axis }

abbrev pub space_row : Space → Row
space_row s = constraint_tag s.constraint ∷ constraint_number s.constraint ∷ amount_tag s.inner ∷ amount_number s.inner ∷ bit s.stretch ∷ axis_byte s.axis ∷ []

abbrev pub space_of : Row → Space
space_of row = space (constraint_of (get_or row 0 0) (get_or row 1 0)) (amount_of (get_or row 2 0) (get_or row 3 0)) (eqb (get_or row 4 0) 1) (axis_of (get_or row 5 0))

-- ---- A track

abbrev pub sheet_track : SheetMinimum → SheetMaximum → SheetTrack
sheet_track minimum maximum = record { minimum = minimum; maximum = maximum }

abbrev pub sheet_minimum_tag : SheetMinimum → ℕ
sheet_minimum_tag (minimum.Fixed n) = 1
sheet_minimum_tag minimum.Auto = 2
sheet_minimum_tag minimum.MinContent = 3
sheet_minimum_tag minimum.MaxContent = 4

abbrev pub sheet_minimum_number : SheetMinimum → ℕ
sheet_minimum_number (minimum.Fixed n) = n
sheet_minimum_number minimum.Auto = 0
sheet_minimum_number minimum.MinContent = 0
sheet_minimum_number minimum.MaxContent = 0

abbrev pub sheet_minimum_of : ℕ → ℕ → SheetMinimum
sheet_minimum_of tag n =
    cond (eqb tag 1) (minimum.Fixed n)
    (cond (eqb tag 2) minimum.Auto
    (cond (eqb tag 3) minimum.MinContent minimum.MaxContent))

abbrev pub sheet_maximum_tag : SheetMaximum → ℕ
sheet_maximum_tag (maximum.Fixed n) = 1
sheet_maximum_tag maximum.Auto = 2
sheet_maximum_tag maximum.MinContent = 3
sheet_maximum_tag maximum.MaxContent = 4
sheet_maximum_tag (maximum.FitContent n) = 5
sheet_maximum_tag (maximum.Fr n) = 6

abbrev pub sheet_maximum_number : SheetMaximum → ℕ
sheet_maximum_number (maximum.Fixed n) = n
sheet_maximum_number maximum.Auto = 0
sheet_maximum_number maximum.MinContent = 0
sheet_maximum_number maximum.MaxContent = 0
sheet_maximum_number (maximum.FitContent n) = n
sheet_maximum_number (maximum.Fr n) = n

abbrev pub sheet_maximum_of : ℕ → ℕ → SheetMaximum
sheet_maximum_of tag n =
    cond (eqb tag 1) (maximum.Fixed n)
    (cond (eqb tag 2) maximum.Auto
    (cond (eqb tag 3) maximum.MinContent
    (cond (eqb tag 4) maximum.MaxContent
    (cond (eqb tag 5) (maximum.FitContent n) (maximum.Fr n)))))

abbrev pub sheet_track_row : SheetTrack → Row
sheet_track_row t = sheet_minimum_tag t.minimum ∷ sheet_minimum_number t.minimum ∷ sheet_maximum_tag t.maximum ∷ sheet_maximum_number t.maximum ∷ []

abbrev pub sheet_track_of : Row → SheetTrack
sheet_track_of row = sheet_track (sheet_minimum_of (get_or row 0 0) (get_or row 1 0)) (sheet_maximum_of (get_or row 2 0) (get_or row 3 0))
