-- The size of an fr: the Rust's float steps in the Rust's order. Assumes nothing.
use Rattle.std.specs.Prelude.{◌≡◌, Bool, true, false, cond, ◌&&◌, ◌||◌, List, [], ℕ, zero, suc, ◌+◌, length, get_or, Float}
use Rattle.std.specs.Float.Ieee as Ieee
use Rattle.std.specs.Float.{nan, binary32}
use Rattle.laws.specs.Turns.{turns, every_place}
use Rattle.float_laws.specs.Numbers.{zero32, one32, infinity}
use Rattle.float_laws.specs.Std.{max_of}
use Rattle.float_track.specs.Track.{base_size}
use Rattle.float_fr_size.specs.declared.Flex.{Flex}
use Rattle.float_fr_size.specs.declared.Sums.{Sums}

-- ---- One track

-- Its part of an fr of this size is no less than its base; a NaN is not.
abbrev pub reaches : Flex → Float → Bool
reaches f fr = Ieee.le f.base (Ieee.mul binary32 f.factor fr)

abbrev pub grows : Flex → Float → Bool
grows f fr = f.flexible && reaches f fr

-- A track that grows adds its factor, any other its base.
abbrev pub add_to : Flex → Float → Sums → Sums
add_to f fr s =
    elim (grows f fr) [
      | true ↦ record { used = s.used; factors = Ieee.add binary32 s.factors f.factor }
      | false ↦ record { used = Ieee.add binary32 s.used f.base; factors = s.factors }
    ]

-- A flexible track is not shrunk by the new size, or was held inflexible by the previous one.
abbrev pub holds_for : Flex → Float → Float → Bool
holds_for f fr previous =
    cond f.flexible (reaches f fr || Ieee.lt (Ieee.mul binary32 f.factor previous) f.base) true

-- ---- The tracks

-- each list has as many places as there are tracks
pub record FrLengths (rows : List (List Float)) (fs : List Bool) (xs : List Float) : Type 0 where
  pub flexible : length fs ≡ length rows
  pub factors : length xs ≡ length rows

module _ (rows : List (List Float)) (fs : List Bool) (xs : List Float) where
  abbrev pub flex_at : ℕ → Flex
  flex_at i = record { flexible = get_or fs i false; factor = get_or xs i nan; base = base_size (get_or rows i []) }

  abbrev pub add_step : Float → ℕ → Sums → Sums
  add_step fr i s = add_to (flex_at i) fr s

  -- both sums in one walk, from 0.0
  abbrev pub sums_of : Float → Sums
  sums_of fr = turns (add_step fr) (length rows) (record { used = zero32; factors = zero32 })

  abbrev pub all_hold : Float → Float → Bool
  all_hold fr previous = every_place (λ i. holds_for (flex_at i) fr previous) (length rows)

  -- The space that is left, by the larger of 1 and the sum of the factors.
  abbrev pub next_fr : Float → Float → Float
  next_fr space fr =
      Ieee.div binary32 (Ieee.sub binary32 space (sums_of fr).used) (max_of (sums_of fr).factors one32)

  -- Passes until the size holds for every track.
  unfoldable pub fr_passes : Float → ℕ → Float → Float
  fr_passes space zero fr = fr
  fr_passes space (suc most) fr =
      elim (all_hold (next_fr space fr) fr) [ true ↦ next_fr space fr | false ↦ fr_passes space most (next_fr space fr) ]

  -- Space 0 gives 0.0; the first pass multiplies by infinity.
  abbrev pub fr_size : Float → Float
  fr_size space = cond (Ieee.eq space zero32) zero32 (fr_passes space (length rows + 1) infinity)
