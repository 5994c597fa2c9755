-- Every byte of a quoted name is 32 or above: no line ends within it, so a message is one line where its words are. Assumes nothing.
use mathlib.Core.Path.{◌≡◌, refl}
use mathlib.Core.Bool.{Bool, true, false, cond, and-eq-true_iff}
use mathlib.Core.List.{List, [], ◌∷◌, ◌++◌, flat_map}
use Prim.Native.Nat.{ℕ, ◌+◌, ◌/◌, ◌%◌, ◌≤◌}
use native.Mathlib.Omega.{arith}
use lib.Dec.{ltb, leb}
use borrow.Author.Tests.{leb-true}
use Rattle.laws.specs.Lists.{All}
use Rattle.printed.specs.Rule.{word, is_plain, hex_digit, shown, quoted}

abbrev pub IsVisible : ℕ → Type 0
IsVisible b = 32 ≤ b

all-joined : (xs ys : List ℕ) → All IsVisible xs → All IsVisible ys → All IsVisible (xs ++ ys)
unfolding All
all-joined [] ys p q = q
all-joined (x ∷ xs) ys p q = (p.0, all-joined xs ys p.1 q)

hex-visible : (d : ℕ) → IsVisible (hex_digit d)
hex-visible d = go (ltb d 10)
  where
    go : (t : Bool) → IsVisible (cond t (48 + d) (87 + d))
    go true = omega arith
    go false = omega arith

shown-visible : (b : ℕ) → All IsVisible (shown b)
unfolding All
shown-visible b = go (is_plain b) refl
  where
    go : (t : Bool) → is_plain b ≡ t → All IsVisible (cond t (b ∷ []) (word "\\x" ++ (hex_digit (b / 16) ∷ hex_digit (b % 16) ∷ [])))
    go true e = (leb-true 32 b ((and-eq-true_iff (leb 32 b) _).0 e).0, tt)
    go false e = (omega arith, (omega arith, (hex-visible (b / 16), (hex-visible (b % 16), tt))))

name-visible : (name : List ℕ) → All IsVisible (flat_map shown name)
unfolding All flat_map
name-visible [] = tt
name-visible (b ∷ name) = all-joined (shown b) (flat_map shown name) (shown-visible b) (name-visible name)

pub quoted-visible : (name : List ℕ) → All IsVisible (quoted name)
unfolding All
quoted-visible name = (omega arith, all-joined (flat_map shown name) (word "'") (name-visible name) (omega arith, tt))
