-- What step 6 makes of the lines, one by one: each base is bounded, and all else stays. Assumes nothing.
use mathlib.Core.Path.{◌≡◌, refl}
use mathlib.Core.Bool.{Bool, true, false, cond}
use mathlib.Core.List.{List, [], ◌∷◌, map}
use Prim.Native.Nat.{ℕ, ◌*◌, ◌/◌, ◌≤◌, max}
use native.Mathlib.Omega.{arith}
use lib.ListN.{length, length-map}
use Rattle.laws.specs.Lists.{All}
use Rattle.laws.specs.Alls.{all-image}
use Rattle.spanned.specs.Rule.{is_fr}
use Rattle.lines.specs.declared.line.Line.{Line}
use Rattle.lines.specs.declared.fr.Fr.{Fr}
use Rattle.lines.specs.Rule.{number, flexed, expand}
use Rattle.lines.specs.Fits.{LineFits, LinesFit}
use Rattle.flexible.specs.Flexes.{flexed_base, most_grown, FrFits}
use Rattle.flexible.proofs.Products.{share-le}
use Rattle.flexible.proofs.Sizes.{factor-fits}

module _ (fr : Fr) where
  flexed-base-le : (l : Line) → FrFits fr → LineFits l → flexed_base fr l ≤ most_grown
  flexed-base-le l f k = go (is_fr l.track)
    where
      go : (b : Bool) → cond b (max l.base (number l * fr.dots / fr.per)) l.base ≤ most_grown
      go true = let b = k.base in let s = share-le (number l) fr.dots fr.per (factor-fits l k) f.dots f.per in omega arith
      go false = let b = k.base in omega arith

  pub expand-base-le : (ls : List Line) → FrFits fr → LinesFit ls → All (λ (l : Line). l.base ≤ most_grown) (expand fr ls)
  unfolding expand
  expand-base-le ls f a = all-image (λ (l : Line). l.base ≤ most_grown) (flexed fr) LineFits (λ l k. flexed-base-le l f k) ls a

  -- what is told of each line without its base stays
  expand-keeps : {A : Type 0} (told : Line → A) → ((l : Line) (base : ℕ) → told (record { track = l.track; base = base; limit = l.limit; growable = l.growable }) ≡ told l)
      → (ls : List Line) → map told (expand fr ls) ≡ map told ls
  unfolding expand
  expand-keeps told e [] = refl
  expand-keeps told e (l ∷ ls) = rw (e l (flexed_base fr l), expand-keeps told e ls)

  pub expand-tracks : (ls : List Line) → map (λ (l : Line). l.track) (expand fr ls) ≡ map (λ (l : Line). l.track) ls
  expand-tracks ls = expand-keeps (λ (l : Line). l.track) (λ l base. refl) ls

  pub expand-limits : (ls : List Line) → map (λ (l : Line). l.limit) (expand fr ls) ≡ map (λ (l : Line). l.limit) ls
  expand-limits ls = expand-keeps (λ (l : Line). l.limit) (λ l base. refl) ls

  pub expand-growable : (ls : List Line) → map (λ (l : Line). l.growable) (expand fr ls) ≡ map (λ (l : Line). l.growable) ls
  expand-growable ls = expand-keeps (λ (l : Line). l.growable) (λ l base. refl) ls

  pub length-expand : (ls : List Line) → length (expand fr ls) ≡ length ls
  unfolding expand
  length-expand ls = length-map ls (flexed fr)
