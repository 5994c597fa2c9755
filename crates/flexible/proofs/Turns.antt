-- The search turn by turn, as the code counts it. Assumes nothing.
use mathlib.Core.Path.{◌≡◌, refl, sym, ap, ◌∙◌}
use mathlib.Core.Bool.{Bool, true, false}
use mathlib.Core.List.{List, [], ◌∷◌, map}
use Prim.Native.Nat.{ℕ, zero, suc, ◌≤◌}
use native.Mathlib.Omega.{arith}
use lib.ListN.{length}
use Rattle.laws.specs.Lists.{some}
use Rattle.lines.specs.declared.line.Line.{Line}
use Rattle.lines.specs.declared.fr.Fr.{Fr}
use Rattle.lines.specs.Rule.{flex_of, search_over}
use Rattle.lines.specs.Fr.{Flex, fr_now, short, hold, search}
use Rattle.flexible.specs.Flexes.{flex_at, flexes, held_first, held_next}

pub flexes-first : (ls : List Line) → flexes ls (held_first ls) ≡ map flex_of ls
unfolding flexes held_first
flexes-first [] = refl
flexes-first (l ∷ ls) = ap (flex_of l ∷◌) (flexes-first ls)

pub flexes-next : (fr : Fr) (ls : List Line) (hs : List Bool) → flexes ls (held_next fr ls hs) ≡ map (hold fr) (flexes ls hs)
unfolding flexes held_next
flexes-next fr [] hs = refl
flexes-next fr (l ∷ ls) [] = refl
flexes-next fr (l ∷ ls) (h ∷ hs) = ap (hold fr (flex_at l h) ∷◌) (flexes-next fr ls hs)

module _ (n space : ℕ) (ts : List Flex) where
  pub search-more : some (short (fr_now space ts)) ts ≡ true → search (suc n) space ts ≡ search n space (map (hold (fr_now space ts)) ts)
  unfolding search
  search-more e = rw (e, search)

  pub search-stop : some (short (fr_now space ts)) ts ≡ false → search (suc n) space ts ≡ fr_now space ts
  unfolding search
  search-stop e = rw (e, search)

-- a restart, and where there is none
module _ (space : ℕ) (ts : List Flex) (fr w : Fr) (e : fr ≡ fr_now space ts) where
  pub search-turn : (n : ℕ) → some (short fr) ts ≡ true → search (suc n) space ts ≡ w → search n space (map (hold fr) ts) ≡ w
  search-turn n s p = rw e (sym (search-more n space ts (rw e at s)) ∙ p)

  pub search-done : (n : ℕ) → some (short fr) ts ≡ false → search n space ts ≡ w → fr ≡ w
  unfolding search
  search-done zero s p = e ∙ p
  search-done (suc n) s p = e ∙ sym (search-stop n space ts (rw e at s)) ∙ p

  pub search-out : (n : ℕ) → n ≤ 0 → search n space ts ≡ w → fr ≡ w
  unfolding search
  search-out zero h p = e ∙ p
  search-out (suc n) h p = absurd (omega arith)

-- the same of a store: its marks at the start, and after a walk
module _ (space : ℕ) (lines : List Line) (held : List Bool) where
  pub search-start : (left : ℕ) → left ≡ length lines → held ≡ held_first lines → search left space (flexes lines held) ≡ search_over space lines
  unfolding search_over
  search-start left l e = rw (l, e, flexes-first)

  pub search-again : (left next : ℕ) (more : Bool) (fr w : Fr) (marks : List Bool) → fr ≡ fr_now space (flexes lines held)
      → more ≡ some (short fr) (flexes lines held) → marks ≡ held_next fr lines held → more ≡ true → left ≡ suc next
      → search left space (flexes lines held) ≡ w → search next space (flexes lines marks) ≡ w
  search-again left next more fr w marks e s m t h p = rw (m, flexes-next) (search-turn space (flexes lines held) fr w e next (sym s ∙ t) (rw h at p))
