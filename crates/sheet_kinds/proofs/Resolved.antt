-- A row says a track of the sheet and, by the same numbers, the track that the sizing reads of it: the sheet has no kind that the
-- sizing does not know. So the rows that were read are sized as they are. Assumes nothing.
use mathlib.Core.Path.{◌≡◌, refl, ap₂}
use mathlib.Core.Bool.{Bool, true, false, cond}
use Prim.Native.Nat.{ℕ}
use mathlib.Core.List.{List, [], ◌∷◌, map}
use lib.Dec.{eqb}
use lib.ListN.{get_or}
use Rattle.kinds.specs.Kinds.{Row, track, track_of, minimum_of, maximum_of}
use Rattle.sheet_kinds.specs.Kinds.{sheet_minimum_of, sheet_maximum_of, sheet_track_of}
use Rattle.sheet_kinds.specs.Rule.{resolved_minimum, resolved_maximum, resolved}

-- a function of one of two is the one of two that it makes of them
of-cond : {A B : Type 0} (f : A → B) (b : Bool) (x y : A) → f (cond b x y) ≡ cond b (f x) (f y)
of-cond f true x y = refl
of-cond f false x y = refl

minimum-resolved : (tag n : ℕ) → resolved_minimum (sheet_minimum_of tag n) ≡ minimum_of tag n
minimum-resolved tag n =
    rw (of-cond resolved_minimum (eqb tag 1), of-cond resolved_minimum (eqb tag 2), of-cond resolved_minimum (eqb tag 3))

maximum-resolved : (tag n : ℕ) → resolved_maximum (sheet_maximum_of tag n) ≡ maximum_of tag n
maximum-resolved tag n =
    rw (of-cond resolved_maximum (eqb tag 1), of-cond resolved_maximum (eqb tag 2), of-cond resolved_maximum (eqb tag 3), of-cond resolved_maximum (eqb tag 4), of-cond resolved_maximum (eqb tag 5))

pub row-resolved : (row : Row) → resolved (sheet_track_of row) ≡ track_of row
row-resolved row = ap₂ track (minimum-resolved (get_or row 0 0) (get_or row 1 0)) (maximum-resolved (get_or row 2 0) (get_or row 3 0))

pub rows-resolved : (rows : List Row) → map resolved (map sheet_track_of rows) ≡ map track_of rows
rows-resolved [] = refl
rows-resolved (row ∷ rows) = ap₂ ◌∷◌ (row-resolved row) (rows-resolved rows)
