-- The increases of a batch, by any way of sharing: as many as the lines, and at each place no more than its items gave there. Assumes nothing.
use mathlib.Core.Path.{◌≡◌, refl, ap, ◌∙◌}
use mathlib.Core.List.{List, [], ◌∷◌}
use Prim.Native.Nat.{ℕ, zero, suc, ◌+◌, ◌≤◌, ◌<◌}
use native.Mathlib.Omega.{arith}
use lib.ListN.{length, get_or, drop, replicate, length-take, length-replicate}
use lib.Seq.{get_or-take, get_or-drop}
use Rattle.laws.specs.Lists.{larger, larger_from, in_turn, length-zip}
use Rattle.laws.specs.Changes.{in-turn-long}
use Rattle.kinds.specs.declared.constraint.Constraint.{Constraint}
use Rattle.lines.specs.declared.line.Line.{Line}
use Rattle.lines.specs.declared.measured.Measured.{Measured}
use Rattle.lines.specs.Rule.{Letter, Sharing, gains_by, increased_by, increases, raise, spanned}

-- no increase at any place
pub get_or-zeros : (n i : ℕ) → ◌≡◌ {A = ℕ} (get_or (replicate n 0) i 0) 0
get_or-zeros zero i = refl
get_or-zeros (suc n) zero = refl
get_or-zeros (suc n) (suc i) = get_or-zeros n i

-- the line at the place j of those spanned
pub spanned-at : (i : Measured) (ls : List Line) (j : ℕ) (d : Line) → j < length (spanned i ls) → get_or (spanned i ls) j d ≡ get_or ls (i.start + j) d
spanned-at i ls j d h =
    let e = length-take i.span (drop i.start ls) in
    let k : j < i.span = omega arith in
    get_or-take i.span (drop i.start ls) j d k ∙ get_or-drop i.start ls j d

-- ---- the larger of each two

length-larger : (gs ps : List ℕ) → length (larger gs ps) ≡ length ps
unfolding larger
length-larger [] ps = refl
length-larger (g ∷ gs) [] = refl
length-larger (g ∷ gs) (p ∷ ps) = ap suc (length-larger gs ps)

length-larger-from : (i : ℕ) (gs ps : List ℕ) → length (larger_from i gs ps) ≡ length ps
unfolding larger_from
length-larger-from zero gs ps = length-larger gs ps
length-larger-from (suc i) gs [] = refl
length-larger-from (suc i) gs (p ∷ ps) = ap suc (length-larger-from i gs ps)

larger-le : (gs ps : List ℕ) (i m : ℕ) → get_or gs i 0 ≤ m → get_or ps i 0 ≤ m → get_or (larger gs ps) i 0 ≤ m
unfolding larger
larger-le [] ps i m g p = p
larger-le (g ∷ gs) [] i m h p = p
larger-le (g ∷ gs) (q ∷ ps) zero m h p = omega arith
larger-le (g ∷ gs) (q ∷ ps) (suc i) m h p = larger-le gs ps i m h p

-- what lies over a place: what it had, or what was laid there
pub larger-from-le : (s : ℕ) (gs ps : List ℕ) (i m : ℕ) → ((j : ℕ) → s + j ≡ i → get_or gs j 0 ≤ m) → get_or ps i 0 ≤ m → get_or (larger_from s gs ps) i 0 ≤ m
unfolding larger_from
larger-from-le zero gs ps i m g p = larger-le gs ps i m (g i (omega arith)) p
larger-from-le (suc s) gs [] i m g p = p
larger-from-le (suc s) gs (q ∷ ps) zero m g p = p
larger-from-le (suc s) gs (q ∷ ps) (suc i) m g p = larger-from-le s gs ps i m (λ (j : ℕ) (e : s + j ≡ i). g j (omega arith)) p

-- ---- the increases of a batch

length-in-turn : (share : Sharing) (letter : Letter) (c : Constraint) (ls : List Line) (batch : List Measured) (ps : List ℕ)
    → length (in_turn (increased_by share letter c ls) batch ps) ≡ length ps
length-in-turn share letter c ls batch ps =
    in-turn-long (increased_by share letter c ls) (λ i qs. length-larger-from i.start (gains_by share letter c i (spanned i ls)) qs) batch ps

-- as many as the lines
pub length-increases : (share : Sharing) (letter : Letter) (c : Constraint) (batch : List Measured) (ls : List Line) → length (increases share letter c batch ls) ≡ length ls
unfolding increases
length-increases share letter c batch ls = length-in-turn share letter c ls batch (replicate (length ls) 0) ∙ length-replicate (length ls) 0

pub length-raise : (share : Sharing) (letter : Letter) (c : Constraint) (batch : List Measured) (ls : List Line) → length (raise share c batch letter ls) ≡ length ls
unfolding raise
length-raise share letter c batch ls = length-zip letter.grown ls (increases share letter c batch ls) (length-increases share letter c batch ls)
