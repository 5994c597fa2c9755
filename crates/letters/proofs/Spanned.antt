-- Gains laid over a slice of the increases: what the increases become. Assumes nothing.
use mathlib.Core.Path.{◌≡◌, refl, ap, ◌∙◌}
use mathlib.Core.List.{List, [], ◌∷◌, ◌++◌}
use Prim.Native.Nat.{ℕ, zero, suc, max}
use lib.ListN.{length, take, drop}
use Rattle.laws.specs.Lists.{larger, larger_from}
use Rattle.letters.proofs.Steps.{larger-nil}

larger-part : (gs ps : List ℕ) → larger gs (take (length gs) ps) ++ drop (length gs) ps ≡ larger gs ps
unfolding larger
larger-part [] ps = refl
larger-part (g ∷ gs) [] = refl
larger-part (g ∷ gs) (p ∷ ps) = ap (max g p ∷◌) (larger-part gs ps)

pub larger-from-part : (s n : ℕ) (gs ps : List ℕ) → length gs ≡ n → take s ps ++ (larger gs (take n (drop s ps)) ++ drop n (drop s ps)) ≡ larger_from s gs ps
unfolding larger_from
larger-from-part s n gs ps e = rw (← e) (go s ps)
  where
    go : (s : ℕ) (ps : List ℕ) → take s ps ++ (larger gs (take (length gs) (drop s ps)) ++ drop (length gs) (drop s ps)) ≡ larger_from s gs ps
    go zero ps = larger-part gs ps
    go (suc s) [] = larger-part gs [] ∙ larger-nil gs
    go (suc s) (p ∷ ps) = ap (p ∷◌) (go s ps)
