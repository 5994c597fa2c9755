-- What a line makes of the fr, and the fr of a line: a turn and the end of each walk. Assumes nothing.
use mathlib.Core.Path.{◌≡◌, refl, sym, subst, ◌∙◌}
use mathlib.Core.Bool.{Bool, true, false, cond}
use mathlib.Core.List.{List, ◌∷◌}
use Prim.Native.Nat.{ℕ, ◌+◌, ◌≤◌, ◌<◌}
use lib.ListN.{length, get_or, set, drop, drop_of_length-le}
use Rattle.laws.specs.Lists.{in_turn, keep, All, all-at, all_set}
use Rattle.laws.specs.Walk.{next}
use Rattle.spanned.specs.Rule.{is_fr}
use Rattle.lines.specs.declared.line.Line.{Line}
use Rattle.lines.specs.declared.fr.Fr.{Fr}
use Rattle.lines.specs.Rule.{base_fr, flexed}
use Rattle.flexible.specs.Flexes.{line_fr, FactorFits}

-- ---- The fr of the bases

abbrev pub fr_only : List Line → List Line
fr_only ls = keep (λ (l : Line). is_fr l.track) ls

keep-turn : (l : Line) (ls : List Line) (fr : Fr) → in_turn base_fr (fr_only (l ∷ ls)) fr ≡ in_turn base_fr (fr_only ls) (line_fr l fr)
unfolding keep in_turn
keep-turn l ls fr = go (is_fr l.track) refl
  where
    go : (b : Bool) → is_fr l.track ≡ b → in_turn base_fr (cond b (l ∷ fr_only ls) (fr_only ls)) fr ≡ in_turn base_fr (fr_only ls) (cond b (base_fr l fr) fr)
    go true e = refl
    go false e = refl

module _ (lines : List Line) (i : ℕ) (fr w : Fr) where
  pub bases-step : (d : Line) (v : Fr) → i < length lines → v ≡ line_fr (get_or lines i d) fr
      → in_turn base_fr (fr_only (drop i lines)) fr ≡ w → in_turn base_fr (fr_only (drop (i + 1) lines)) v ≡ w
  bases-step d v h e p = rw e (sym (keep-turn (get_or lines i d) (drop (i + 1) lines) fr) ∙ (rw (next lines i d) at p))

  pub bases-end : length lines ≤ i → in_turn base_fr (fr_only (drop i lines)) fr ≡ w → fr ≡ w
  unfolding keep in_turn
  bases-end h p = rw (drop_of_length-le lines) at p

-- ---- The lines grown

module _ (lines : List Line) (i : ℕ) (d : Line) (fits : All FactorFits lines) (h : i < length lines) where
  pub factors-kept : (fr : Fr) (v : Line) → v ≡ flexed fr (get_or lines i d) → All FactorFits (set lines i v)
  factors-kept fr v e = all_set FactorFits lines i v fits (subst FactorFits (sym e) (all-at FactorFits lines i d fits h))
