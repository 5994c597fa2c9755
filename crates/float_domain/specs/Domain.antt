-- Which floats a routine takes, and when a call is refused by 12 or 13. Assumes nothing.
use Rattle.std.specs.Prelude.{Bool, true, cond, ◌&&◌, List, [], ◌∷◌, ◌++◌, map, ℕ, suc, ltb, leb, eqb, get_or, Float}
use Rattle.std.specs.Float.Ieee as Ieee
use Rattle.std.specs.Float.{nan, binary32}
use Rattle.std.specs.Float.Ieee.{to_bits}
use Rattle.laws.specs.Faults.{Fault, fine, fault, unless}
use Rattle.float_laws.specs.Numbers.{most_tracks, sign_bit, zero32, thousandth, thousand, million, infinity}
use Rattle.float_domain.specs.declared.kind.Kind.{Kind}
use Rattle.float_domain.specs.declared.kind.Kind.TheVariants.{Size, Limit, Factor, Proportion}

-- ---- The domain of each kind

-- The sign bit is clear. Every use stands beside a comparison, which no NaN passes.
abbrev pub sign_clear : Float → Bool
sign_clear x = ltb (to_bits binary32 x) sign_bit

abbrev pub in_range : Float → Float → Float → Bool
in_range least x most = Ieee.le x most && (Ieee.le least x && sign_clear x)

-- Sizes and spaces: 0 to 1,000,000.
abbrev pub in_size : Float → Bool
in_size x = in_range zero32 x million

-- Only limits may be +infinity.
abbrev pub in_limit : Float → Bool
in_limit x = cond (Ieee.eq x infinity) true (in_size x)

-- Proportions: 0.001 to 1,000.
abbrev pub in_proportion : Float → Bool
in_proportion x = in_range thousandth x thousand

-- Factors: 0, or 0.001 to 1,000.
abbrev pub in_factor : Float → Bool
in_factor x = cond (Ieee.eq x zero32) (in_range zero32 x zero32) (in_proportion x)

abbrev pub in_domain : Kind → Float → Bool
in_domain Size x = in_size x
in_domain Limit x = in_limit x
in_domain Factor x = in_factor x
in_domain Proportion x = in_proportion x

-- ---- The numbers of a call, in the order in which 13 counts them

-- A place for a number: nothing is there, or a float of a kind.
pub data Number : Type 0 where
  absent : Number
  given : Kind → Float → Number

abbrev pub accepted : Number → Bool
accepted absent = true
accepted (given kind x) = in_domain kind x

abbrev pub numbers_of : Kind → List Float → List Number
numbers_of kind xs = map (given kind) xs

-- A track record's numbers as listed: base size, growth limit, the planned increase of each, incurred increase.
abbrev pub track_numbers : List Float → List Number
track_numbers row =
    given Size (get_or row 0 nan)
    ∷ given Limit (get_or row 1 nan)
    ∷ given Size (get_or row 2 nan)
    ∷ given Size (get_or row 3 nan)
    ∷ given Size (get_or row 4 nan)
    ∷ []

unfoldable pub tracks_numbers : List (List Float) → List Number
tracks_numbers [] = []
tracks_numbers (row ∷ rows) = track_numbers row ++ tracks_numbers rows

-- ---- Refusals

-- 12: each slice has n places, and a call may have so many tracks.
abbrev pub lengths_fit : ℕ → List ℕ → Bool
lengths_fit n [] = leb n most_tracks
lengths_fit n (m ∷ ms) = eqb m n && lengths_fit n ms

abbrev pub lengths_fault : ℕ → List ℕ → Fault
lengths_fault n ms = unless (lengths_fit n ms) (fault 12 0)

-- 13: the index of the first float outside its domain, the first number's index being `index`.
unfoldable pub outside_from : ℕ → List Number → Fault
outside_from index [] = fine
outside_from index (n ∷ ns) = cond (accepted n) (outside_from (suc index) ns) (fault 13 index)
