-- The passes for the size of an fr, one at a time. Assumes nothing.
use mathlib.Core.Path.{◌≡◌, refl}
use mathlib.Core.Bool.{Bool, true, false}
use mathlib.Core.List.{List}
use Prim.Native.Nat.{ℕ, zero, suc, ◌<◌}
use native.Mathlib.Nat.{not-suc-le-zero}
use lib.Ieee as Ieee
use lib.Ieee.{Float, binary32}
use Rattle.laws.specs.Turns.{turns-none, turns_next}
use Rattle.float_laws.specs.Numbers.{one32}
use Rattle.float_laws.specs.Std.{max_of}
use Rattle.float_fr_size.specs.declared.Sums.{Sums}
use Rattle.float_fr_size.specs.Fr.{sums_of, next_fr, all_hold, fr_passes}

module _ (rows : List (List Float)) (fs : List Bool) (xs : List Float) (space : Float) where
  pub next-by-sums : (fr divisor : Float) (sums : Sums) → sums ≡ sums_of rows fs xs fr → divisor ≡ max_of sums.factors one32
      → Ieee.div binary32 (Ieee.sub binary32 space sums.used) divisor ≡ next_fr rows fs xs space fr
  next-by-sums fr divisor sums summed larger = rw (larger, summed)

  pub passes_none : (left : ℕ) (fr : Float) → left ≡ 0 → fr ≡ fr_passes rows fs xs space left fr
  unfolding fr_passes
  passes_none left fr none = rw none refl

  -- a pass that holds is the last
  pub passes-held : (left : ℕ) (previous fr : Float) → 0 < left → fr ≡ next_fr rows fs xs space previous
      → all_hold rows fs xs fr previous ≡ true → fr ≡ fr_passes rows fs xs space left previous
  unfolding fr_passes
  passes-held zero previous fr some next held = absurd (not-suc-le-zero some)
  passes-held (suc left) previous fr some next held = let told = rw next at held in rw next (rw (told, fr_passes))

  -- and any other hands its size on
  pub passes-next : (left less : ℕ) (previous fr : Float) → left ≡ suc less → fr ≡ next_fr rows fs xs space previous
      → all_hold rows fs xs fr previous ≡ false → fr_passes rows fs xs space less fr ≡ fr_passes rows fs xs space left previous
  unfolding fr_passes
  passes-next left less previous fr one_more next shrunk = let told = rw next at shrunk in rw (one_more, next) (rw (told, fr_passes))

-- for the check of `find_size_of_fr`
pub ruleset by_pass = (next-by-sums, passes_none, passes-held, passes-next)

-- and of `sums_of`
pub ruleset by_turn = (turns-none, turns_next)
