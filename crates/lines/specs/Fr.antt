-- The fr search, in exact fractions: nothing is rounded here. It assumes nothing and it computes.
use Rattle.std.specs.Prelude.{ℕ, zero, suc, ◌-◌, ◌*◌, max, Bool, cond, not, ◌&&◌, ◌||◌, List, map, ltb}
use Rattle.laws.specs.Lists.{some}
use Rattle.laws.specs.Sums.{sum}
use Rattle.lines.specs.declared.fr.Fr.{Fr}

-- fr is a fraction: so many dots for `per` thousandths of a factor
abbrev pub fr_of : ℕ → ℕ → Fr
fr_of dots per = record { dots = dots; per = per }

-- no growth
abbrev pub no_fr : Fr
no_fr = fr_of 0 1000

-- the larger of two, compared crosswise
abbrev pub larger_fr : Fr → Fr → Fr
larger_fr a b = cond (ltb (a.dots * b.per) (b.dots * a.per)) b a

-- A track in the search; the factor of one that is held inflexible is not read.
pub record Flex : Type 0 where
  pub size : ℕ
  pub factor : ℕ
  pub held : Bool

abbrev pub held_size : Flex → ℕ
held_size t = cond t.held t.size 0

abbrev pub open_factor : Flex → ℕ
open_factor t = cond t.held 0 t.factor

-- space minus the sizes held inflexible, at least 0, divided by the larger of 1 and the sum of the other factors
unfoldable pub fr_now : ℕ → List Flex → Fr
fr_now space ts = fr_of (space - sum (map held_size ts)) (max 1000 (sum (map open_factor ts)))

-- an fr track with factor times fr below base
abbrev pub short : Fr → Flex → Bool
short fr t = not t.held && ltb (t.factor * fr.dots) (t.size * fr.per)

-- becomes inflexible too
abbrev pub hold : Fr → Flex → Flex
hold fr t = record { size = t.size; factor = t.factor; held = short fr t || t.held }

-- and the search restarts. Each restart holds a track more, so there are no more of them than tracks.
unfoldable pub search : ℕ → ℕ → List Flex → Fr
search zero space ts = fr_now space ts
search (suc n) space ts = cond (some (short (fr_now space ts)) ts) (search n space (map (hold (fr_now space ts)) ts)) (fr_now space ts)
