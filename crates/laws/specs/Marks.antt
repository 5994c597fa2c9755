-- Marks: a list of yes and no, one for each track. Assumes nothing.
use Rattle.std.specs.Prelude.{◌≡◌, refl, ℕ, zero, suc, ◌+◌, min, Bool, true, false, List, [], ◌∷◌, ltb}
use Rattle.std.proofs.Common.{sym, ap, ◌∙◌, arith, lt-ltb}

-- a mark as a number
abbrev pub bit : Bool → ℕ
bit true = 1
bit false = 0

pub bit-ltb : (x : ℕ) → bit (ltb 0 x) ≡ min 1 x
bit-ltb zero = refl
bit-ltb (suc x) = let e : min 1 (suc x) ≡ 1 = omega arith in ap bit (lt-ltb 0 (suc x) (omega arith)) ∙ sym e

-- how many are marked
unfoldable pub number : List Bool → ℕ
number [] = 0
number (m ∷ ms) = bit m + number ms
