-- Steps 6 and 7 from one to the next: what the lines keep between them, and that both together are the rule's. Assumes nothing.
use mathlib.Core.Path.{◌≡◌, sym, ap, subst, ◌∙◌}
use mathlib.Core.Bool.{Bool}
use mathlib.Core.List.{List}
use Prim.Native.Nat.{ℕ, ◌≤◌}
use native.Mathlib.Omega.{arith}
use lib.ListN.{length}
use Rattle.laws.specs.Lists.{All, keep}
use Rattle.laws.specs.Alls.{all_map}
use Rattle.rounds.specs.Rule.{most_tracks, most_dots}
use Rattle.kinds.specs.Kinds.{constraint_number}
use Rattle.kinds.specs.declared.constraint.Constraint.{Constraint}
use Rattle.kinds.specs.declared.track.Track.{Track}
use Rattle.spanned.specs.Sound.{ConstraintFits}
use Rattle.lines.specs.declared.line.Line.{Line}
use Rattle.lines.specs.declared.measured.Measured.{Measured}
use Rattle.lines.specs.declared.fr.Fr.{Fr}
use Rattle.lines.specs.Rule.{on_fr, expand, stretched, finish}
use Rattle.lines.specs.Fits.{LinesFit, MeasuredFit}
use Rattle.flexible.specs.Flexes.{fr_over, most_grown}
use Rattle.flexible.proofs.Bounds.{fr-over-bounds}
use Rattle.flexible.proofs.Expanded.{expand-base-le}
use Rattle.flexible.proofs.Rule.{fr-for-is}
use Rattle.sizing.specs.Size.{most_base, BasesFit, FreeFits, finished_lines}
use Rattle.sizing.proofs.FreeFits.{free-fits}

-- with the items that cross an fr track as the batch
pub finished-is : (e : Constraint) (asked : Bool) (ts : List Track) (is : List Measured) (ls : List Line) → finished_lines e asked (keep (on_fr ts) is) ls ≡ finish e asked ts is ls
unfolding finish
finished-is e asked ts is ls = ap (λ (fr : Fr). stretched asked e (expand fr ls)) (sym (fr-for-is e ts is ls))

-- a bound that leaves more room
bases-fit : (ls : List Line) → All (λ (l : Line). l.base ≤ most_grown) ls → BasesFit ls
bases-fit ls a = all_map (λ (l : Line). l.base ≤ most_grown) (λ (l : Line). l.base ≤ most_base) (λ l (h : l.base ≤ most_grown). omega arith) ls a

-- ---- the lines after step 6

pub flexed-fits : (e : Constraint) (n : ℕ) (batch : List Measured) (ls grown : List Line) → grown ≡ expand (fr_over e batch ls) ls
    → length ls ≤ most_tracks → LinesFit ls → constraint_number e ≤ most_dots → MeasuredFit n batch → BasesFit grown
flexed-fits e n batch ls grown flexed few f h m =
    let bounds = fr-over-bounds ls few f n e batch h m in
    subst BasesFit (sym flexed) (bases-fit (expand (fr_over e batch ls) ls) (expand-base-le (fr_over e batch ls) ls bounds.fits f))

-- ---- both steps

pub finished : (e : Constraint) (asked : Bool) (batch : List Measured) (ls grown ends : List Line) → grown ≡ expand (fr_over e batch ls) ls → ends ≡ stretched asked e grown
    → ends ≡ finished_lines e asked batch ls
finished e asked batch ls grown ends g h = h ∙ ap (stretched asked e) g

pub finished-free-fits : (e : Constraint) (asked : Bool) (batch : List Measured) (ls ends : List Line) → ends ≡ finished_lines e asked batch ls
    → LinesFit ls → length ls ≤ most_tracks → ConstraintFits e → FreeFits e ends
finished-free-fits e asked batch ls ends h f few k = subst (FreeFits e) (sym h) (free-fits e asked batch ls f few k)
