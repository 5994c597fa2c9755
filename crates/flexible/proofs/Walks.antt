-- A turn and the end of each walk over the lines, said of lists. Assumes nothing.
use mathlib.Core.Path.{◌≡◌}
use mathlib.Core.Bool.{Bool, true, false, ◌||◌, or-false}
use mathlib.Core.List.{List, [], ◌∷◌, map}
use Prim.Native.Nat.{ℕ, ◌+◌, ◌≤◌, ◌<◌}
use lib.ListN.{length, get_or, set, drop, drop_of_length-le}
use Rattle.laws.specs.Lists.{some}
use Rattle.laws.specs.Sums.{sum}
use Rattle.laws.specs.Walk.{next, kept}
use Rattle.lines.specs.declared.line.Line.{Line}
use Rattle.lines.specs.declared.fr.Fr.{Fr}
use Rattle.lines.specs.Fr.{Flex, short}
use Rattle.flexible.specs.Flexes.{flex_at, flexes, held_next}

-- the lines from i on
abbrev pub flexes_from : List Line → List Bool → ℕ → List Flex
flexes_from lines held i = flexes (drop i lines) (drop i held)

module _ (lines : List Line) (held : List Bool) (i : ℕ) (d : Line) (h : i < length lines) (k : i < length held) where
  abbrev pub flex_here : Flex
  flex_here = flex_at (get_or lines i d) (get_or held i false)

  flexes-step : flexes_from lines held i ≡ flex_here ∷ flexes_from lines held (i + 1)
  unfolding flexes
  flexes-step = rw (next lines i d, next held i false)

  pub sum_step : (f : Flex → ℕ) → sum (map f (flexes_from lines held i)) ≡ f flex_here + sum (map f (flexes_from lines held (i + 1)))
  unfolding sum
  sum_step f = rw flexes-step

module _ (lines : List Line) (held : List Bool) (i : ℕ) (h : length lines ≤ i) where
  flexes-end : flexes_from lines held i ≡ []
  unfolding flexes
  flexes-end = rw (drop_of_length-le lines)

  pub sum-end : (f : Flex → ℕ) → sum (map f (flexes_from lines held i)) ≡ 0
  unfolding sum
  sum-end f = rw flexes-end

-- ---- Which lines are held

module _ (lines : List Line) (i : ℕ) where
  -- a restart
  pub next-step : (d : Line) (fr : Fr) (v x : Bool) (xs : List Bool) → i < length lines → v ≡ (short fr (flex_at (get_or lines i d) x) || x)
      → held_next fr (drop i lines) (x ∷ xs) ≡ v ∷ held_next fr (drop (i + 1) lines) xs
  unfolding held_next
  next-step d fr v x xs h e = rw (next lines i d, e)

  pub next-end : (fr : Fr) (xs : List Bool) → length lines ≤ i → held_next fr (drop i lines) xs ≡ []
  unfolding held_next
  next-end fr xs h = rw (drop_of_length-le lines)

-- ---- Whether one was short

or_turn : (a s t w : Bool) → (a || (s || t)) ≡ w → ((s || a) || t) ≡ w
or_turn true true t w e = e
or_turn true false t w e = e
or_turn false true t w e = e
or_turn false false t w e = e

pub some-step : (fr : Fr) (lines : List Line) (held : List Bool) (i : ℕ) (d : Line) (a s t v w : Bool) → i < length lines → i < length held
    → s ≡ short fr (flex_at (get_or lines i d) (get_or held i false)) → t ≡ (s || a)
    → (a || some (short fr) (flexes_from lines held i)) ≡ w → (t || some (short fr) (flexes_from lines (set held i v) (i + 1))) ≡ w
unfolding some
some-step fr lines held i d a s t v w h k e f p =
    rw (f, e, kept held i v) (or_turn a (short fr (flex_here lines held i d h k)) (some (short fr) (flexes_from lines held (i + 1))) w (rw (flexes-step lines held i d h k) at p))

pub some_end : (fr : Fr) (lines : List Line) (held : List Bool) (i : ℕ) (a w : Bool) → length lines ≤ i → (a || some (short fr) (flexes_from lines held i)) ≡ w → a ≡ w
unfolding some
some_end fr lines held i a w h p = rw (flexes-end lines held i h, or-false a) at p
