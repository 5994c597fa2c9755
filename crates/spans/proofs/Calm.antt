-- Lines at rest: a letter that gives nothing leaves them, a batch ends with them, and so does step 2. Assumes nothing.
use mathlib.Core.Path.{◌≡◌, refl, sym, ap, ◌∙◌}
use mathlib.Core.Bool.{Bool, true, false, cond, ◌&&◌, true≢false}
use mathlib.Core.List.{List, [], ◌∷◌, zip_with}
use Prim.Native.Nat.{ℕ, ◌+◌}
use native.Mathlib.Nat.{add-zero}
use native.Mathlib.Omega.{arith}
use lib.Dec.{ltb}
use lib.ListN.{length, replicate}
use Rattle.laws.specs.Lists.{All, in_turn}
use Rattle.laws.specs.Changes.{all-change, in-turn-keeps}
use Rattle.laws.specs.Alls.{all_map, all-image, image-all}
use Rattle.kinds.specs.declared.constraint.Constraint.{Constraint}
use Rattle.kinds.specs.declared.constraint.Constraint.TheVariants.{Definite, MinContent, MaxContent}
use Rattle.kinds.specs.declared.track.Track.{Track}
use Rattle.std.specs.Prelude.{Some, None}
use Rattle.lines.specs.declared.line.Line.{Line}
use Rattle.lines.specs.declared.measured.Measured.{Measured}
use Rattle.lines.specs.Rule.{Limit, line, at_least, limit_plus, is_none, settled, grown_base, grown_limit, raise, start_line, start, with_item, with_item_at, singles}
use Rattle.letters.specs.declared.letter.Letter.{Letter}
use Rattle.letters.specs.declared.letter.Letter.TheVariants.{A, B, C, D, E, F}
use Rattle.letters.specs.Letters.{letter_of, changes_unraised}
use Rattle.letters.specs.declared.batch.Batch.{Batch}
use Rattle.letters.specs.declared.batch.Batch.TheVariants.{OfSpan, Last}
use Rattle.spans.specs.Work.{IsAbove, AtRest, Calm, letter_step, letter_steps, all_steps}
use Rattle.spans.proofs.Parts.{all-zip}

-- ---- an increase of nothing

at-least-above : (base : ℕ) (limit : Limit) → IsAbove base limit → at_least base limit ≡ limit
at-least-above base None a = refl
at-least-above base (Some n) a = ap Some (omega arith)

plus-nothing : (base : ℕ) (limit : Limit) → limit_plus base 0 limit ≡ limit
plus-nothing base None = refl
plus-nothing base (Some n) = ap Some (add-zero n)

unmarked : (marks : Bool) (limit : Limit) → (marks && (is_none limit && ltb 0 0)) ≡ false
unmarked true None = refl
unmarked true (Some n) = refl
unmarked false limit = refl

base_stays : (l : Line) → grown_base l 0 ≡ l
base_stays l = ap (λ (b : ℕ). line l.track b l.limit l.growable) (add-zero l.base)

module _ (l : Line) (r : AtRest l) where
  settled-stays : settled l ≡ l
  settled-stays = ap (λ (m : Limit). line l.track l.base m l.growable) (at-least-above l.base l.limit r.0)

  limit-stays : (marks : Bool) → grown_limit marks l 0 ≡ l
  limit-stays marks =
      ap (λ (m : Limit). line l.track l.base m (marks && (is_none l.limit && ltb 0 0))) (plus-nothing l.base l.limit)
      ∙ ap (line l.track l.base l.limit) (unmarked marks l.limit ∙ sym r.1)

  grown-stays : (letter : Letter) → (letter_of letter).grown l 0 ≡ l
  grown-stays A = base_stays l
  grown-stays B = base_stays l
  grown-stays C = base_stays l
  grown-stays D = ap settled (base_stays l) ∙ settled-stays
  grown-stays E = limit-stays true
  grown-stays F = limit-stays false

calm-stays : (letter : Letter) (ls : List Line) → Calm ls → zip_with (letter_of letter).grown ls (replicate (length ls) 0) ≡ ls
unfolding zip_with All
calm-stays letter [] r = refl
calm-stays letter (l ∷ ls) r = rw (grown-stays l r.0 letter) (ap (l ∷◌) (calm-stays letter ls r.1))

bases-stay : (ls : List Line) → zip_with grown_base ls (replicate (length ls) 0) ≡ ls
unfolding zip_with
bases-stay [] = refl
bases-stay (l ∷ ls) = rw (base_stays l) (ap (l ∷◌) (bases-stay ls))

-- lines that are calm, or a letter that changes no line without an increase
pub lines_stay : (letter : Letter) (moved : Bool) (ls : List Line) → (moved && changes_unraised letter) ≡ false → (moved ≡ false → Calm ls)
    → zip_with (letter_of letter).grown ls (replicate (length ls) 0) ≡ ls
lines_stay letter false ls e calm = calm-stays letter ls (calm refl)
lines_stay A true ls e calm = bases-stay ls
lines_stay B true ls e calm = bases-stay ls
lines_stay C true ls e calm = bases-stay ls
lines_stay D true ls e calm = absurd (true≢false e)
lines_stay E true ls e calm = absurd (true≢false e)
lines_stay F true ls e calm = absurd (true≢false e)

-- ---- a batch

above-settled : (base : ℕ) (limit : Limit) → IsAbove base (at_least base limit)
above-settled base None = tt
above-settled base (Some n) = omega arith

above_more : (base increase : ℕ) (b : Bool) → IsAbove base (cond b (Some (base + increase)) None)
above_more base increase true = omega arith
above_more base increase false = tt

above-plus : (base increase : ℕ) (limit : Limit) → IsAbove base limit → IsAbove base (limit_plus base increase limit)
above-plus base increase None a = above_more base increase (ltb 0 increase)
above-plus base increase (Some n) a = omega arith

abbrev Settled : Line → Type 0
Settled l = IsAbove l.base l.limit

abbrev Unmarked : Line → Type 0
Unmarked l = l.growable ≡ false

-- (a) to (c) leave the marks, and (d) lifts limits to the base
bases-unmarked : (ls : List Line) (ps : List ℕ) → All Unmarked ls → All Unmarked (zip_with grown_base ls ps)
bases-unmarked = all-zip grown_base Unmarked Unmarked (λ (l : Line) (p : ℕ) (u : Unmarked l). u)

calm-by-d : (ls : List Line) (ps : List ℕ) → All Unmarked ls → Calm (zip_with (letter_of D).grown ls ps)
calm-by-d = all-zip (letter_of D).grown Unmarked AtRest (λ (l : Line) (p : ℕ) (u : Unmarked l). (above-settled (l.base + p) l.limit, u))

-- (e) leaves lines settled, and (f) takes the marks away
settled-by-e : (ls : List Line) (ps : List ℕ) → Calm ls → All Settled (zip_with (letter_of E).grown ls ps)
settled-by-e = all-zip (letter_of E).grown AtRest Settled (λ (l : Line) (p : ℕ) (r : AtRest l). above-plus l.base p l.limit r.0)

calm-by-f : (ls : List Line) (ps : List ℕ) → All Settled ls → Calm (zip_with (letter_of F).grown ls ps)
calm-by-f = all-zip (letter_of F).grown Settled AtRest (λ (l : Line) (p : ℕ) (s : Settled l). (above-plus l.base p l.limit s, refl))

three-unmarked : (kind : Batch) (c : Constraint) (batch : List Measured) (ls : List Line) → All Unmarked ls → All Unmarked (letter_steps kind c batch (A ∷ B ∷ C ∷ []) ls)
unfolding in_turn letter_step raise
three-unmarked kind (Definite n) batch ls u = bases-unmarked _ _ (bases-unmarked _ _ u)
three-unmarked kind MinContent batch ls u = bases-unmarked _ _ (bases-unmarked _ _ u)
three-unmarked kind MaxContent batch ls u = bases-unmarked _ _ (bases-unmarked _ _ (bases-unmarked _ _ u))

-- a batch that begins with calm lines has them again behind (d), and at its end
pub half-calm : (kind : Batch) (c : Constraint) (batch : List Measured) (ls : List Line) → Calm ls → Calm (letter_steps kind c batch (A ∷ B ∷ C ∷ D ∷ []) ls)
unfolding in_turn letter_step raise
half-calm kind c batch ls r = calm-by-d _ _ (three-unmarked kind c batch ls (all_map AtRest Unmarked (λ (l : Line) (k : AtRest l). k.1) ls r))

pub batch-calm : (kind : Batch) (c : Constraint) (batch : List Measured) (ls : List Line) → Calm ls → Calm (all_steps kind c batch ls)
unfolding in_turn letter_step raise
batch-calm OfSpan c batch ls r = calm-by-f _ _ (settled-by-e _ _ (half-calm OfSpan c batch ls r))
batch-calm Last c batch ls r = half-calm Last c batch ls r

-- ---- step 2

start-unmarked : (ts : List Track) → All Unmarked (start ts)
unfolding start
start-unmarked ts = image-all Unmarked start_line (λ (t : Track). refl) ts

items-unmarked : (c : Constraint) (is : List Measured) (ls : List Line) → All Unmarked ls → All Unmarked (in_turn (with_item_at c) is ls)
items-unmarked c is ls u = in-turn-keeps (All Unmarked) (with_item_at c) (λ i on v. all-change Unmarked (with_item c i) (λ l k. k) i.start on v) is ls u

pub singles-calm : (c : Constraint) (is : List Measured) (ts : List Track) → Calm (singles c is (start ts))
unfolding singles
singles-calm c is ts =
    all-image AtRest settled Unmarked (λ (l : Line) (u : Unmarked l). (above-settled l.base l.limit, u)) _ (items-unmarked c is (start ts) (start-unmarked ts))
