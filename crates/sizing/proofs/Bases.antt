-- How far the sum of the bases can go: what it is before step 6, and what a fill adds. Assumes nothing.
use mathlib.Core.Path.{◌≡◌, refl}
use mathlib.Core.Bool.{Bool, true, false}
use mathlib.Core.List.{List, [], ◌∷◌, map, zip_with}
use Prim.Native.Nat.{ℕ, ◌+◌, ◌-◌, ◌*◌, ◌≤◌, zero-le}
use native.Mathlib.Omega.{arith}
use lib.ListN.{length}
use Rattle.laws.specs.Lists.{All}
use Rattle.laws.specs.Alls.{image-all}
use Rattle.laws.specs.Sums.{sum}
use Rattle.rounds.specs.Rule.{gains_of, fill}
use Rattle.rounds.specs.Rule as fill
use Rattle.rounds.proofs.Tied.{Fresh}
use Rattle.rounds.proofs.Fresh.{sum-gains-add-left}
use Rattle.lines.specs.declared.line.Line.{Line}
use Rattle.kinds.specs.declared.constraint.Constraint.TheVariants.{Definite}
use Rattle.lines.specs.Rule.{bases, grown_base, stretch_track, stretched}
use Rattle.lines.specs.Fits.{LinesFit}

-- lines that fit: 65,535 each at most
pub bases-le : (ls : List Line) → LinesFit ls → bases ls ≤ length ls * 65535
unfolding bases sum All
bases-le [] f = zero-le
bases-le (l ∷ ls) f = let r = bases-le ls f.1 in let b = f.0.base in omega arith

-- a fill adds no more than its gains
bases-grown-le : (ls : List Line) (gs : List ℕ) → bases (zip_with grown_base ls gs) ≤ bases ls + sum gs
unfolding bases sum zip_with
bases-grown-le [] gs = zero-le
bases-grown-le (l ∷ ls) [] = zero-le
bases-grown-le (l ∷ ls) (g ∷ gs) = let r = bases-grown-le ls gs in omega arith

stretch-fresh : (ls : List Line) → Fresh (map stretch_track ls)
stretch-fresh ls = image-all (λ (t : fill.Track). t.gain ≡ 0) stretch_track (λ l. refl) ls

pub bases-stretched-le : (asked : Bool) (n : ℕ) (ls : List Line) → bases (stretched asked (Definite n) ls) ≤ bases ls + n
unfolding stretched
bases-stretched-le false n ls = omega arith
bases-stretched-le true n ls =
    let s = sum-gains-add-left (n - bases ls) (map stretch_track ls) (stretch-fresh ls) in
    let b = bases-grown-le ls (gains_of (fill (n - bases ls) (map stretch_track ls)).tracks) in
    omega arith
