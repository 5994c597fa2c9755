-- Shares that give nothing in either sort of batch: there are no dots, or no line is affected. Assumes nothing.
use mathlib.Core.Path.{◌≡◌, refl, ap, ap₂, ◌∙◌}
use mathlib.Core.Bool.{Bool, false}
use mathlib.Core.List.{List, [], ◌∷◌, map}
use Prim.Native.Nat.{ℕ, zero, suc}
use native.Mathlib.Omega.{arith}
use lib.ListN.{length, get_or, replicate}
use Rattle.laws.specs.Lists.{some}
use Rattle.lines.specs.declared.line.Line.{Line}
use Rattle.lines.specs.Rule.{affects_fr, shares_by_factor}
use Rattle.lines.specs.Rule as rule
use Rattle.lines.proofs.ByFactor.{unaffected-gains-nothing}
use Rattle.letters.specs.declared.batch.Batch.{Batch}
use Rattle.letters.specs.declared.batch.Batch.TheVariants.{OfSpan, Last}
use Rattle.letters.specs.Batches.{affected_in, shares_in}
use Rattle.letters.proofs.Nothing.{or-neither, shares-none, shares-unaffected}
use Rattle.letters.proofs.Keeps.{length-shares-in, shares-in-le}

-- ---- the shares by factor

zeros-of-at : (xs : List ℕ) → ((i : ℕ) → get_or xs i 0 ≡ 0) → xs ≡ replicate (length xs) 0
zeros-of-at [] z = refl
zeros-of-at (x ∷ xs) z = ap₂ ◌∷◌ (z 0) (zeros-of-at xs (λ i. z (suc i)))

-- none of them, so not the one at a place
none-at : (p : Line → Bool) (ls : List Line) (i : ℕ) → some p ls ≡ false → get_or (map p ls) i false ≡ false
unfolding some
none-at p [] i e = refl
none-at p (l ∷ ls) zero e = (or-neither (p l) (some p ls) e).0
none-at p (l ∷ ls) (suc i) e = none-at p ls i (or-neither (p l) (some p ls) e).1

by-factor-nothing : (letter : rule.Letter) (extra : ℕ) (ls : List Line) → ((i : ℕ) → get_or (shares_by_factor letter extra ls) i 0 ≡ 0)
    → shares_by_factor letter extra ls ≡ replicate (length ls) 0
by-factor-nothing letter extra ls z = zeros-of-at (shares_by_factor letter extra ls) z ∙ ap (λ (n : ℕ). replicate n 0) (length-shares-in Last letter extra ls)

by-factor-none : (letter : rule.Letter) (ls : List Line) → shares_by_factor letter 0 ls ≡ replicate (length ls) 0
by-factor-none letter ls = by-factor-nothing letter 0 ls (λ i. omega (arith, shares-in-le Last letter 0 ls i))

by-factor-unaffected : (letter : rule.Letter) (extra : ℕ) (ls : List Line) → some (affects_fr letter) ls ≡ false
    → shares_by_factor letter extra ls ≡ replicate (length ls) 0
unfolding shares_by_factor
by-factor-unaffected letter extra ls e =
    by-factor-nothing letter extra ls (λ i. unaffected-gains-nothing extra (map (affects_fr letter) ls) (map rule.number ls) i (none-at (affects_fr letter) ls i e))

-- ---- in either sort of batch

pub shares-in-none : (kind : Batch) (letter : rule.Letter) (ls : List Line) → shares_in kind letter 0 ls ≡ replicate (length ls) 0
shares-in-none OfSpan = shares-none
shares-in-none Last = by-factor-none

pub shares-in-unaffected : (kind : Batch) (letter : rule.Letter) (extra : ℕ) (ls : List Line) → some (affected_in kind letter) ls ≡ false
    → shares_in kind letter extra ls ≡ replicate (length ls) 0
shares-in-unaffected OfSpan = shares-unaffected
shares-in-unaffected Last = by-factor-unaffected
