-- The last batch raises fr tracks alone: a track that is not fr keeps its base. Assumes nothing.
use mathlib.Core.Path.{◌≡◌, refl, ap, ◌∙◌}
use mathlib.Core.Bool.{Bool, false, ◌&&◌, and-false}
use mathlib.Core.List.{List, [], ◌∷◌, map, zip_with}
use Prim.Native.Nat.{ℕ, zero, suc, ◌+◌, ◌≤◌, ◌<◌, suc-le-suc}
use native.Mathlib.Omega.{arith}
use lib.ListN.{length, get_or, replicate}
use Rattle.laws.specs.Lists.{All, keep}
use Rattle.laws.specs.Changes.{in-turn-keeps, in-turn-keeps-all}
use Rattle.kinds.specs.declared.constraint.Constraint.{Constraint}
use Rattle.kinds.specs.declared.constraint.Constraint.TheVariants.{Definite, MinContent, MaxContent}
use Rattle.kinds.specs.declared.track.Track.{Track}
use Rattle.spanned.specs.Rule.{is_fr}
use Rattle.lines.specs.declared.line.Line.{Line}
use Rattle.lines.specs.declared.measured.Measured.{Measured}
use Rattle.lines.specs.Rule.{number, Letter, affects_fr, shares_by_factor, extra_of, gains_by, increased_by, increases, raise, spanned, on_fr, base_letters, batched, last_batch}
use Rattle.lines.proofs.ByFactor.{unaffected-gains-nothing}
use Rattle.lines.proofs.Increases.{get_or-zeros, spanned-at, larger-from-le, length-increases}

-- ---- a track that is not fr is not affected, and gains nothing

not-affected : (letter : Letter) (l : Line) → is_fr l.track ≡ false → affects_fr letter l ≡ false
not-affected letter l e = ap (λ (fr : Bool). letter.affected l && fr) e ∙ and-false (letter.affected l)

not-marked : (letter : Letter) (on : List Line) (j : ℕ) (d : Line) → (j < length on → is_fr (get_or on j d).track ≡ false) → get_or (map (affects_fr letter) on) j false ≡ false
not-marked letter [] j d e = refl
not-marked letter (l ∷ on) zero d e = not-affected letter l (e (omega arith))
not-marked letter (l ∷ on) (suc j) d e = not-marked letter on j d (λ (h : j < length on). e (suc-le-suc h))

module _ (letter : Letter) (c : Constraint) (ls : List Line) (k : ℕ) (d : Line) (e : is_fr (get_or ls k d).track ≡ false) where
  gain-none : (i : Measured) (j : ℕ) → i.start + j ≡ k → get_or (gains_by shares_by_factor letter c i (spanned i ls)) j 0 ≡ 0
  unfolding gains_by shares_by_factor
  gain-none i j at =
      let on = spanned i ls in
      unaffected-gains-nothing (extra_of letter c i on) (map (affects_fr letter) on) (map number on) j
      (not-marked letter on j d (λ (h : j < length on). ap (λ (l : Line). is_fr l.track) (spanned-at i ls j d h ∙ ap (λ (n : ℕ). get_or ls n d) at) ∙ e))

  increase-none : (batch : List Measured) → get_or (increases shares_by_factor letter c batch ls) k 0 ≤ 0
  unfolding increases
  increase-none batch =
      in-turn-keeps (λ (ps : List ℕ). get_or ps k 0 ≤ 0) (increased_by shares_by_factor letter c ls)
      (λ (i : Measured) (ps : List ℕ) (p : get_or ps k 0 ≤ 0).
      larger-from-le i.start (gains_by shares_by_factor letter c i (spanned i ls)) ps k 0 (λ (j : ℕ) (at : i.start + j ≡ k). omega (arith, gain-none i j at)) p)
      batch (replicate (length ls) 0) (omega (arith, get_or-zeros (length ls) k))

-- ---- a letter that adds an increase to the base, and leaves the track

abbrev RaisesBase : Letter → Type 0
RaisesBase letter = (l : Line) (increase : ℕ) → ((letter.grown l increase).base ≡ l.base + increase) × ((letter.grown l increase).track ≡ l.track)

base-letters-raise-bases : (c : Constraint) → All RaisesBase (base_letters c)
unfolding All
base-letters-raise-bases (Definite n) = (λ l x. (refl, refl), (λ l x. (refl, refl), (λ l x. (refl, refl), tt)))
base-letters-raise-bases MinContent = (λ l x. (refl, refl), (λ l x. (refl, refl), (λ l x. (refl, refl), tt)))
base-letters-raise-bases MaxContent = (λ l x. (refl, refl), (λ l x. (refl, refl), (λ l x. (refl, refl), (λ l x. (refl, refl), tt))))

-- the line at a place has its base and its track still
module _ (k : ℕ) (d : Line) where
  abbrev Kept : List Line → List Line → Type 0
  Kept ls out = ((get_or out k d).base ≡ (get_or ls k d).base) × ((get_or out k d).track ≡ (get_or ls k d).track)

  kept_at : (letter : Letter) → RaisesBase letter → (ls : List Line) (xs : List ℕ) (j : ℕ) → length xs ≡ length ls → get_or xs j 0 ≤ 0
      → ((get_or (zip_with letter.grown ls xs) j d).base ≡ (get_or ls j d).base) × ((get_or (zip_with letter.grown ls xs) j d).track ≡ (get_or ls j d).track)
  unfolding zip_with
  kept_at letter r [] xs j long z = (refl, refl)
  kept_at letter r (l ∷ ls) [] j long z = absurd (omega arith)
  kept_at letter r (l ∷ ls) (x ∷ xs) zero long z = (omega (arith, (r l x).0), (r l x).1)
  kept_at letter r (l ∷ ls) (x ∷ xs) (suc j) long z = kept_at letter r ls xs j (omega arith) z

  raise-keeps : (c : Constraint) (batch : List Measured) (letter : Letter) → RaisesBase letter → (ls : List Line) → is_fr (get_or ls k d).track ≡ false → Kept ls (raise shares_by_factor c batch letter ls)
  unfolding raise
  raise-keeps c batch letter r ls e =
      kept_at letter r ls (increases shares_by_factor letter c batch ls) k (length-increases shares_by_factor letter c batch ls) (increase-none letter c ls k d e batch)

  batch-keeps : (c : Constraint) (batch : List Measured) (ls : List Line) → is_fr (get_or ls k d).track ≡ false → Kept ls (batched shares_by_factor (base_letters c) c batch ls)
  unfolding batched
  batch-keeps c [] ls e = (refl, refl)
  batch-keeps c (i ∷ is) ls e =
      in-turn-keeps-all (Kept ls) (raise shares_by_factor c (i ∷ is)) RaisesBase
      (λ (letter : Letter) (on : List Line) (r : RaisesBase letter) (p : Kept ls on).
      let q = raise-keeps c (i ∷ is) letter r on (ap (λ (t : Track). is_fr t) p.1 ∙ e) in (q.0 ∙ p.0, q.1 ∙ p.1))
      (base_letters c) ls (base-letters-raise-bases c) (refl, refl)

-- a track that is not fr keeps its base, whatever items cross it
pub last-batch-raises-fr-alone : (c : Constraint) (ts : List Track) (is : List Measured) (ls : List Line) (k : ℕ) (d : Line) → is_fr (get_or ls k d).track ≡ false
    → (get_or (last_batch c ts is ls) k d).base ≡ (get_or ls k d).base
unfolding last_batch
last-batch-raises-fr-alone c ts is ls k d e = (batch-keeps k d c (keep (on_fr ts) is) ls e).0
