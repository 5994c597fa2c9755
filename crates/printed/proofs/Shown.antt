-- A byte of a name as it is shown, and a name byte by byte. Assumes nothing.
use mathlib.Core.Path.{◌≡◌, sym, ap, ◌∙◌}
use mathlib.Core.List.{List, [], ◌∷◌, ◌++◌, flat_map, append_assoc, append-nil}
use Prim.Native.Nat.{ℕ, ◌+◌, ◌<◌}
use native.Mathlib.Numerals.{add-one}
use lib.ListN.{length, get_or, take}
use lib.Seq.{take-suc}
use Rattle.printed.specs.Rule.{shown}

flat-map-after : (f : ℕ → List ℕ) (xs : List ℕ) (x : ℕ) → flat_map f (xs ++ (x ∷ [])) ≡ flat_map f xs ++ f x
unfolding flat_map
flat-map-after f [] x = append-nil (f x)
flat-map-after f (y ∷ ys) x = ap (λ (rest : List ℕ). f y ++ rest) (flat-map-after f ys x) ∙ sym (append_assoc (f y) (flat_map f ys) (f x))

pub name-turn : (name : List ℕ) (i : ℕ) → i < length name → flat_map shown (take i name) ++ shown (get_or name i 0) ≡ flat_map shown (take (i + 1) name)
name-turn name i l = sym (flat-map-after shown (take i name) (get_or name i 0)) ∙ ap (flat_map shown) (sym (rw (add-one, take-suc name i 0)))
