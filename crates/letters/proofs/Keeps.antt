-- What a letter keeps: its gains are as many as the lines, no gain is more than the extra dots, and sizes stay within the limit of a
-- contribution. Assumes nothing.
use mathlib.Core.Path.{◌≡◌, refl, sym, ◌∙◌}
use mathlib.Core.Logic.{⊎_elim}
use mathlib.Core.Bool.{Bool, true, false, cond}
use mathlib.Core.List.{List, [], ◌∷◌, map, zip_with}
use Prim.Native.Nat.{ℕ, zero, suc, ◌+◌, ◌-◌, ◌≤◌, ◌<◌, zero-le}
use native.Mathlib.Nat.{le_trans, le_of_suc-le-suc}
use native.Mathlib.Omega.{arith}
use lib.Dec.{ltb}
use lib.ListN.{length, get_or, replicate, length-map, get_or-map, get_or-eq_default}
use Rattle.laws.specs.Tests.{lt-or-ge}
use Rattle.laws.specs.Lists.{in_turn, All, all-at, length-zip}
use Rattle.laws.specs.Sums.{sum, get_or-le-sum}
use Rattle.rounds.specs.Rule.{gains_of, fill}
use Rattle.rounds.proofs.Tied.{Fresh}
use Rattle.rounds.proofs.Fresh.{gain-add-left-le, length-gains}
use Rattle.kinds.specs.declared.constraint.Constraint.{Constraint}
use Rattle.kinds.specs.declared.item.ContributionKind.TheVariants as kind
use Rattle.spanned.specs.Rule.{most_size, most_contribution}
use Rattle.std.specs.Prelude.{Some, None}
use Rattle.lines.specs.declared.line.Line.{Line}
use Rattle.lines.specs.declared.measured.Measured.{Measured}
use Rattle.lines.specs.Rule.{Limit, contribution_at, number, or_base, limit_plus, first_track, rest_track, shares, affects_fr, shares_by_factor, extra_of, gains_by, increased_by, increases, raise, spanned}
use Rattle.lines.specs.Rule as rule
use Rattle.kinds.specs.Kinds.{amount_number}
use Rattle.lines.specs.Fits.{LineFits, LinesFit, MeasuredFits, MeasuredFit}
use Rattle.lines.proofs.ByFactor.{share-le, length-share}
use Rattle.lines.proofs.Increases.{get_or-zeros, larger-from-le, spanned-at}
use Rattle.lines.proofs.Fits.{at-least-le, limit-size-le, limited-le, for-auto-le}
use Rattle.letters.specs.declared.letter.Letter.{Letter}
use Rattle.letters.specs.declared.letter.Letter.TheVariants.{A, B, C, D, E, F}
use Rattle.letters.specs.Letters.{letter_of, most}
use Rattle.letters.specs.declared.batch.Batch.{Batch}
use Rattle.letters.specs.declared.batch.Batch.TheVariants.{OfSpan, Last}
use Rattle.letters.specs.Batches.{shares_in}
use Rattle.letters.proofs.Nothing.{length-first}
use Rattle.letters.proofs.Shared.{first_fill, first-fresh, zip-fresh}

-- ---- the gains of an item

get_or-zip-add-le : (xs ys : List ℕ) (i : ℕ) → get_or (zip_with ◌+◌ xs ys) i 0 ≤ get_or xs i 0 + get_or ys i 0
unfolding zip_with
get_or-zip-add-le [] ys i = zero-le
get_or-zip-add-le (x ∷ xs) [] i = zero-le
get_or-zip-add-le (x ∷ xs) (y ∷ ys) zero = omega arith
get_or-zip-add-le (x ∷ xs) (y ∷ ys) (suc i) = get_or-zip-add-le xs ys i

module _ (letter : rule.Letter) (extra : ℕ) (on : List Line) where
  abbrev first_gains : List ℕ
  first_gains = gains_of (first_fill letter extra on).tracks

  rest-fresh : Fresh (zip_with (rest_track letter on) on first_gains)
  rest-fresh = zip-fresh (rest_track letter on) (λ (l : Line) (g : ℕ). refl) on first_gains

  length_rest : length (gains_of (fill (first_fill letter extra on).left (zip_with (rest_track letter on) on first_gains)).tracks) ≡ length on
  length_rest = length-gains (first_fill letter extra on).left (zip_with (rest_track letter on) on first_gains) rest-fresh ∙ length-zip (rest_track letter on) on first_gains (length-first letter extra on)

  pub length-shares : length (shares letter extra on) ≡ length on
  unfolding shares
  length-shares = length-zip ◌+◌ first_gains (gains_of (fill (first_fill letter extra on).left (zip_with (rest_track letter on) on first_gains)).tracks) (length_rest ∙ sym (length-first letter extra on)) ∙ length-first letter extra on

  -- no line gains more than there is
  pub shares-le : (i : ℕ) → get_or (shares letter extra on) i 0 ≤ extra
  unfolding shares
  shares-le i =
      let a = get_or-zip-add-le first_gains (gains_of (fill (first_fill letter extra on).left (zip_with (rest_track letter on) on first_gains)).tracks) i in
      let b = gain-add-left-le extra (map (first_track letter) on) (first-fresh letter on) i in
      let d = gain-add-left-le (first_fill letter extra on).left (zip_with (rest_track letter on) on first_gains) rest-fresh i in
      omega arith

-- ---- in either sort of batch

length-by-factor : (letter : rule.Letter) (extra : ℕ) (on : List Line) → length (shares_by_factor letter extra on) ≡ length on
unfolding shares_by_factor
length-by-factor letter extra on =
    length-share extra (map (affects_fr letter) on) (map number on) (length-map on number ∙ sym (length-map on (affects_fr letter)))
    ∙ length-map on (affects_fr letter)

by-factor-le : (letter : rule.Letter) (extra : ℕ) (on : List Line) (i : ℕ) → get_or (shares_by_factor letter extra on) i 0 ≤ extra
unfolding shares_by_factor
by-factor-le letter extra on = share-le extra (map (affects_fr letter) on) (map number on)

pub length-shares-in : (kind : Batch) (letter : rule.Letter) (extra : ℕ) (on : List Line) → length (shares_in kind letter extra on) ≡ length on
length-shares-in OfSpan = length-shares
length-shares-in Last = length-by-factor

pub shares-in-le : (kind : Batch) (letter : rule.Letter) (extra : ℕ) (on : List Line) (i : ℕ) → get_or (shares_in kind letter extra on) i 0 ≤ extra
shares-in-le OfSpan = shares-le
shares-in-le Last = by-factor-le

-- ---- a contribution is within its limit, and so is what it is measured against

contribution-le : {n : ℕ} (letter : Letter) (c : Constraint) (i : Measured) (ls : List Line) → MeasuredFits n i → (letter_of letter).contribution c i ls ≤ most_contribution
contribution-le A c i ls f = for-auto-le c _ i ls f
contribution-le B c i ls f = f.contributions kind.MinContent
contribution-le C c i ls f = limited-le (contribution_at i kind.MaxContent) most_contribution i ls (f.contributions kind.Minimum) (f.contributions kind.MaxContent)
contribution-le D c i ls f = f.contributions kind.MaxContent
contribution-le E c i ls f = f.contributions kind.MinContent
contribution-le F c i ls f = f.contributions kind.MaxContent

pub extra-le : {n : ℕ} (letter : Letter) (c : Constraint) (i : Measured) (on : List Line) → MeasuredFits n i → extra_of (letter_of letter) c i on ≤ most_contribution
extra-le letter c i on f = let h = contribution-le letter c i on f in omega arith

pub present-le : (letter : Letter) (l : Line) → LineFits l → (letter_of letter).present l ≤ most_size
present-le A l f = f.base
present-le B l f = f.base
present-le C l f = f.base
present-le D l f = f.base
present-le E l f = limit-size-le l f
present-le F l f = limit-size-le l f

-- ---- no increase takes a line over the limit

-- what a line has is in the sum of what the lines have
present-le-sum : (present : Line → ℕ) (on : List Line) (j : ℕ) (d : Line) → j < length on → present (get_or on j d) ≤ sum (map present on)
present-le-sum present on j d h =
    rw (← get_or-map present on j d) (le_trans (same (map present on) j (present d) (rw (length-map on present) h)) (get_or-le-sum (map present on) j))
  where
    same : (xs : List ℕ) (k d : ℕ) → k < length xs → get_or xs k d ≤ get_or xs k 0
    same [] k d h = absurd (omega arith)
    same (x ∷ xs) zero d h = omega arith
    same (x ∷ xs) (suc k) d h = same xs k d (le_of_suc-le-suc h)

module _ (kind : Batch) (letter : Letter) (c : Constraint) (ls : List Line) (d : Line) where
  -- room above the line at the place k, up to the limit
  abbrev above : ℕ → ℕ
  above k = most_size - (letter_of letter).present (get_or ls k d)

  gain-fits : {n : ℕ} (i : Measured) (j : ℕ) → MeasuredFits n i → get_or (gains_by (shares_in kind) (letter_of letter) c i (spanned i ls)) j 0 ≤ above (i.start + j)
  unfolding gains_by
  gain-fits i j f =
      ⊎_elim
      (λ (h : j < length (spanned i ls)).
      let le = shares-in-le kind (letter_of letter) (extra_of (letter_of letter) c i (spanned i ls)) (spanned i ls) j in
      let asked = contribution-le letter c i (spanned i ls) f in
      let had : (letter_of letter).present (get_or ls (i.start + j) d) ≤ sum (map (letter_of letter).present (spanned i ls)) =
      rw (spanned-at i ls j d h) at (present-le-sum (letter_of letter).present (spanned i ls) j d h) in
      omega arith)
      (λ (h : length (spanned i ls) ≤ j).
      let z : get_or (shares_in kind (letter_of letter) (extra_of (letter_of letter) c i (spanned i ls)) (spanned i ls)) j 0 ≡ 0 =
      get_or-eq_default (shares_in kind (letter_of letter) (extra_of (letter_of letter) c i (spanned i ls)) (spanned i ls)) 0 (rw (length-shares-in kind (letter_of letter) (extra_of (letter_of letter) c i (spanned i ls)) (spanned i ls)) h) in
      omega arith)
      (lt-or-ge j (length (spanned i ls)))

  in-turn-fits : (n : ℕ) (batch : List Measured) (ps : List ℕ) (k : ℕ) → MeasuredFit n batch → get_or ps k 0 ≤ above k → get_or (in_turn (increased_by (shares_in kind) (letter_of letter) c ls) batch ps) k 0 ≤ above k
  unfolding in_turn All
  in-turn-fits n [] ps k f h = h
  in-turn-fits n (i ∷ batch) ps k f h =
      in-turn-fits n batch (increased_by (shares_in kind) (letter_of letter) c ls i ps) k f.1
      (larger-from-le i.start (gains_by (shares_in kind) (letter_of letter) c i (spanned i ls)) ps k (above k)
      (λ (j : ℕ) (e : i.start + j ≡ k). rw e at (gain-fits i j f.0)) h)

  pub increases-fit : (n : ℕ) (batch : List Measured) → LinesFit ls → MeasuredFit n batch → (k : ℕ) → k < length ls
      → (letter_of letter).present (get_or ls k d) + get_or (increases (shares_in kind) (letter_of letter) c batch ls) k 0 ≤ most_size
  unfolding increases
  increases-fit n batch fl fb k h =
      let p = present-le letter (get_or ls k d) (all-at LineFits ls k d fl h) in
      let z : get_or (replicate (length ls) 0) k 0 ≤ above k = rw (get_or-zeros (length ls) k) zero-le in
      let q = in-turn-fits n batch (replicate (length ls) 0) k fb z in
      omega arith

-- as `apply` asks it
pub increases-applicable : (kind : Batch) (letter : Letter) (c : Constraint) (n : ℕ) (batch : List Measured) (lines : List Line) → LinesFit lines → MeasuredFit n batch
    → (i : ℕ) (d : Line) → i < length lines → (letter_of letter).present (get_or lines i d) + get_or (increases (shares_in kind) (letter_of letter) c batch lines) i 0 ≤ most
increases-applicable kind letter c n batch lines fl fb i d h = let k = increases-fit kind letter c lines d n batch fl fb i h in omega arith

-- ---- a raised line is within the limit

limit-plus-le : (base increase k : ℕ) (limit : Limit) → or_base limit base + increase ≤ k → amount_number (limit_plus base increase limit) ≤ k
limit-plus-le base increase k None h = go (ltb 0 increase)
  where
    go : (b : Bool) → amount_number (cond b (Some (base + increase)) None) ≤ k
    go true = h
    go false = zero-le
limit-plus-le base increase k (Some n) h = h

grown-fits : (letter : Letter) (l : Line) (increase : ℕ) → LineFits l → (letter_of letter).present l + increase ≤ most_size → LineFits ((letter_of letter).grown l increase)
grown-fits A l increase f h = record { track = f.track; base = h; limit = f.limit }
grown-fits B l increase f h = record { track = f.track; base = h; limit = f.limit }
grown-fits C l increase f h = record { track = f.track; base = h; limit = f.limit }
grown-fits D l increase f h = record { track = f.track; base = h; limit = at-least-le (l.base + increase) most_size l.limit h f.limit }
grown-fits E l increase f h = record { track = f.track; base = f.base; limit = limit-plus-le l.base increase most_size l.limit h }
grown-fits F l increase f h = record { track = f.track; base = f.base; limit = limit-plus-le l.base increase most_size l.limit h }

all_grown : (letter : Letter) (ls : List Line) (xs : List ℕ) → LinesFit ls
    → ((i : ℕ) (d : Line) → i < length ls → (letter_of letter).present (get_or ls i d) + get_or xs i 0 ≤ most_size) → LinesFit (zip_with (letter_of letter).grown ls xs)
unfolding zip_with All
all_grown letter [] xs f h = tt
all_grown letter (l ∷ ls) [] f h = tt
all_grown letter (l ∷ ls) (x ∷ xs) f h = (
  grown-fits letter l x f.0 (h 0 l (omega arith)),
  all_grown letter ls xs f.1 (λ (i : ℕ) (d : Line) (k : i < length ls). h (suc i) d (omega arith)),
)

pub raise-fits : (kind : Batch) (letter : Letter) (c : Constraint) (n : ℕ) (batch : List Measured) (ls : List Line) → LinesFit ls → MeasuredFit n batch
    → LinesFit (raise (shares_in kind) c batch (letter_of letter) ls)
unfolding raise
raise-fits kind letter c n batch ls fl fb = all_grown letter ls (increases (shares_in kind) (letter_of letter) c batch ls) fl (λ i d k. increases-fit kind letter c ls d n batch fl fb i k)
