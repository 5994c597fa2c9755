-- The share by factor, in which the last batch of step 3 hands out dots. It goes over the dots, a mark for each track that is affected, and a factor
-- for each track; its odd dots are the fill's. It assumes nothing of the code and it computes.
use Rattle.std.specs.Prelude.{ℕ, ◌+◌, ◌-◌, ◌*◌, ◌/◌, Bool, false, cond, ltb, eqb}
use mathlib.Core.List.{List, map, zip_with}
use Rattle.laws.specs.Sums.{sum}
use Rattle.laws.specs.Marks.{bit}
use Rattle.rounds.specs.Rule.{track_of, gains_of, fill, odd_takers}
use Rattle.rounds.specs.Rule as fill

-- the factors that count are those of the affected tracks
abbrev pub counted : Bool → ℕ → ℕ
counted affected factor = cond affected factor 0

unfoldable pub those_factors : List Bool → List ℕ → List ℕ
those_factors affected factors = zip_with counted affected factors

-- each gets the dots times its factor divided by the sum of those factors, rounded down
abbrev pub quota : (dots total factor : ℕ) → ℕ
quota dots total factor = dots * factor / total

unfoldable pub quotas : ℕ → List ℕ → List ℕ
quotas dots factors = map (quota dots (sum factors)) factors

-- the dots over go one each to the first tracks with a factor above 0
abbrev pub dots_over : ℕ → List ℕ → ℕ
dots_over dots factors = dots - sum (quotas dots factors)

abbrev pub has_factor : ℕ → Bool
has_factor factor = ltb 0 factor

abbrev pub with_odd : ℕ → Bool → ℕ
with_odd dots taker = dots + bit taker

unfoldable pub by_factors : ℕ → List ℕ → List ℕ
by_factors dots factors = zip_with with_odd (quotas dots factors) (odd_takers (dots_over dots factors) (map has_factor factors))

-- if all those factors are 0, the plain fill, without limits
abbrev pub unlimited : Bool → fill.Track
unlimited affected = track_of affected false 0

unfoldable pub plainly : ℕ → List Bool → List ℕ
plainly dots affected = gains_of (fill dots (map unlimited affected)).tracks

unfoldable pub share_by_factor : ℕ → List Bool → List ℕ → List ℕ
share_by_factor dots affected factors =
    cond (eqb (sum (those_factors affected factors)) 0) (plainly dots affected) (by_factors dots (those_factors affected factors))
