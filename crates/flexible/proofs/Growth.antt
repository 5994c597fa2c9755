-- Each restart gives a fraction no larger, so that a line once held stays within its base, and step 6 adds no more to the
-- bases than the space that it searches. Assumes nothing.
use mathlib.Core.Path.{◌≡◌, refl, sym, ap, subst, ◌∙◌}
use mathlib.Core.Logic.{⊎_elim}
use mathlib.Core.Bool.{Bool, true, false, cond, not, ◌||◌}
use mathlib.Core.List.{List, [], ◌∷◌, map}
use Prim.Native.Nat.{ℕ, zero, suc, ◌+◌, ◌-◌, ◌*◌, ◌/◌, ◌≤◌, ◌<◌, max}
use native.Mathlib.Nat.{le_of_lt, mul_comm, mul_assoc, mul-add, add-mul, zero-mul, mul-le-mul_left, mul-le-mul_right, le_of_mul-le-mul_right, div-mul-le_self, div-le_of_le-mul}
use native.Mathlib.Omega.{arith}
use lib.Dec.{ltb}
use lib.ListN.{length}
use borrow.Author.Tests.{ltb-true, not-true}
use Rattle.laws.specs.Lists.{some}
use Rattle.laws.specs.Sums.{sum}
use Rattle.laws.specs.Tests.{lt-or-ge, true-or-false, never}
use Rattle.spanned.specs.Rule.{is_fr}
use Rattle.lines.specs.declared.line.Line.{Line}
use Rattle.lines.specs.declared.fr.Fr.{Fr}
use Rattle.lines.specs.Rule.{number, bases, search_over, expand}
use Rattle.lines.specs.Fr.{no_fr, Flex, held_size, open_factor, fr_now, short, hold, search}
use Rattle.flexible.specs.Flexes.{flex_at, flexes, not_fr, held_first, held_next, flexed_base, definite_fr}
use Rattle.flexible.proofs.Turns.{flexes-first, flexes-next, search-more, search-stop}

-- ---- What a restart holds

abbrev new_size : Fr → Flex → ℕ
new_size fr t = cond (short fr t) t.size 0

abbrev new_factor : Fr → Flex → ℕ
new_factor fr t = cond (short fr t) t.factor 0

-- of one track
record Held (fr : Fr) (t : Flex) : Type 0 where
  sizes : held_size (hold fr t) ≡ held_size t + new_size fr t
  factors : open_factor t ≡ open_factor (hold fr t) + new_factor fr t
  share : new_factor fr t * fr.dots ≤ new_size fr t * fr.per

held_one : (fr : Fr) (t : Flex) → Held fr t
held_one fr t = go t.held (ltb (t.factor * fr.dots) (t.size * fr.per)) refl refl
  where
    go : (h s : Bool) → t.held ≡ h → ltb (t.factor * fr.dots) (t.size * fr.per) ≡ s → Held fr t
    go true s e f = record { sizes = rw e (omega arith); factors = rw e (omega arith); share = rw e (omega (arith, zero-mul fr.dots, zero-mul fr.per)) }
    go false true e f = record { sizes = rw (e, f) (omega arith); factors = rw (e, f) (omega arith); share = rw (e, f) (le_of_lt (ltb-true (t.factor * fr.dots) (t.size * fr.per) f)) }
    go false false e f = record { sizes = rw (e, f) (omega arith); factors = rw (e, f) (omega arith); share = rw (e, f) (omega (arith, zero-mul fr.dots, zero-mul fr.per)) }

-- and of all
abbrev sizes_of : List Flex → ℕ
sizes_of ts = sum (map held_size ts)

abbrev pub factors_of : List Flex → ℕ
factors_of ts = sum (map open_factor ts)

record HeldAll (fr : Fr) (ts : List Flex) : Type 0 where
  size : ℕ
  factor : ℕ
  sizes : sizes_of (map (hold fr) ts) ≡ sizes_of ts + size
  factors : factors_of ts ≡ factors_of (map (hold fr) ts) + factor
  share : factor * fr.dots ≤ size * fr.per

held_all : (fr : Fr) (ts : List Flex) → HeldAll fr ts
unfolding sum
held_all fr [] = record { size = 0; factor = 0; sizes = refl; factors = refl; share = omega (arith, zero-mul fr.dots, zero-mul fr.per) }
held_all fr (t ∷ ts) =
    let a = held_one fr t in
    let b = held_all fr ts in
    record {
      size = new_size fr t + b.size;
      factor = new_factor fr t + b.factor;
      sizes = omega (arith, a.sizes, b.sizes);
      factors = omega (arith, a.factors, b.factors);
      share = omega (arith, a.share, b.share, add-mul (new_factor fr t) b.factor fr.dots, add-mul (new_size fr t) b.size fr.per);
    }

-- a hold opens no factor
pub factors-hold-le : (fr : Fr) (ts : List Flex) → factors_of (map (hold fr) ts) ≤ factors_of ts
factors-hold-le fr ts = let a = held_all fr ts in let f = a.factors in omega arith

-- ---- Each restart gives a fraction no larger

-- D dots for P, then D less B for P less X at the most
falls : (D P B X D' P' : ℕ) → X * D ≤ B * P → D' ≤ D - B → P ≤ P' + X → D' * P ≤ D * P'
falls D P B X D' P' s d p =
    ⊎_elim
    (λ (l : B < D).
    let a : (D - B) * P + B * P ≡ D * P = sym (add-mul (D - B) B P) ∙ ap (◌* P) (omega arith) in
    let m : D * P ≤ D * (P' + X) = mul-le-mul_left D p in
    let n : D * (P' + X) ≡ D * P' + D * X = mul-add D P' X in
    let x : D * X ≡ X * D = mul_comm D X in
    let k : D' * P ≤ (D - B) * P = mul-le-mul_right P d in
    omega arith)
    (λ (l : D ≤ B).
    let z : D' ≡ 0 = omega arith in
    rw z (omega (arith, zero-mul P)))
    (lt-or-ge B D)

pub search-decreases : (space : ℕ) (ts : List Flex)
    → (fr_now space (map (hold (fr_now space ts)) ts)).dots * (fr_now space ts).per ≤ (fr_now space ts).dots * (fr_now space (map (hold (fr_now space ts)) ts)).per
unfolding fr_now
search-decreases space ts =
    let a = held_all (fr_now space ts) ts in
    let s = a.sizes in
    let f = a.factors in
    falls (fr_now space ts).dots (fr_now space ts).per a.size a.factor _ _ a.share (omega arith) (omega arith)

-- ---- A line once held stays within its base

-- every fr line that is held would get no more than its base
unfoldable pub Within : Fr → List Line → List Bool → Type 0
Within fr (l ∷ ls) (h ∷ hs) = (h ≡ true → is_fr l.track ≡ true → number l * fr.dots ≤ l.base * fr.per) × Within fr ls hs
Within fr (l ∷ ls) [] = ⊥
Within fr [] hs = Unit {0}

-- at the start no fr line is held
within_first : (fr : Fr) (ls : List Line) → Within fr ls (held_first ls)
unfolding Within held_first
within_first fr [] = tt
within_first fr (l ∷ ls) = (other (is_fr l.track), within_first fr ls)
  where
    other : {X : Type 0} (b : Bool) → not b ≡ true → b ≡ true → X
    other true p q = never q (not-true true p)
    other false p q = never q refl

-- a smaller fraction asks for no more
smaller-asks : (a b D P D' P' : ℕ) → 0 < P → D' * P ≤ D * P' → a * D ≤ b * P → a * D' ≤ b * P'
smaller-asks a b D P D' P' p d h =
    let u : a * D' * P ≤ a * (D * P') = rw (mul_assoc a D' P) (mul-le-mul_left a d) in
    let v : a * D * P' ≤ b * P * P' = mul-le-mul_right P' h in
    let w : a * D * P' ≡ a * (D * P') = mul_assoc a D P' in
    let x : b * P * P' ≡ b * P' * P = mul_assoc b P P' ∙ ap (b *◌) (mul_comm P P') ∙ sym (mul_assoc b P' P) in
    le_of_mul-le-mul_right {k = P} (omega arith) p

short-asks : (fr : Fr) (l : Line) (h : Bool) → short fr (flex_at l h) ≡ true → number l * fr.dots ≤ l.base * fr.per
short-asks fr l true e = never e refl
short-asks fr l false e = le_of_lt (ltb-true (number l * fr.dots) (l.base * fr.per) e)

-- held before, or short now
held_asks : (fr : Fr) (l : Line) (h : Bool) → (h ≡ true → is_fr l.track ≡ true → number l * fr.dots ≤ l.base * fr.per)
    → (short fr (flex_at l h) || h) ≡ true → is_fr l.track ≡ true → number l * fr.dots ≤ l.base * fr.per
held_asks fr l h w e f = go (short fr (flex_at l h)) refl e
  where
    go : (s : Bool) → short fr (flex_at l h) ≡ s → (s || h) ≡ true → number l * fr.dots ≤ l.base * fr.per
    go true p q = short-asks fr l h p
    go false p q = w q f

within-next : (fr fr' : Fr) (ls : List Line) (hs : List Bool) → 0 < fr.per → fr'.dots * fr.per ≤ fr.dots * fr'.per → Within fr ls hs → Within fr' ls (held_next fr ls hs)
unfolding Within held_next
within-next fr fr' [] hs p d w = tt
within-next fr fr' (l ∷ ls) [] p d w = w
within-next fr fr' (l ∷ ls) (h ∷ hs) p d w =
    (λ e f. smaller-asks (number l) l.base fr.dots fr.per fr'.dots fr'.per p d (held_asks fr l h w.0 e f), within-next fr fr' ls hs p d w.1)

-- ---- Each restart holds a line more

-- how many are not held
unfoldable opens : List Bool → ℕ
opens [] = 0
opens (h ∷ hs) = cond h 0 1 + opens hs

opens-first-le : (ls : List Line) → opens (held_first ls) ≤ length ls
unfolding opens held_first
opens-first-le [] = omega arith
opens-first-le (l ∷ ls) = omega (arith, one (not_fr l), opens-first-le ls)
  where
    one : (b : Bool) → cond b 0 1 ≤ 1
    one true = omega arith
    one false = omega arith

held-closes : (s h : Bool) → cond (s || h) 0 1 ≤ cond h 0 1
held-closes true true = omega arith
held-closes true false = omega arith
held-closes false true = omega arith
held-closes false false = omega arith

opens-next-le : (fr : Fr) (ls : List Line) (hs : List Bool) → opens (held_next fr ls hs) ≤ opens hs
unfolding opens held_next
opens-next-le fr [] hs = omega arith
opens-next-le fr (l ∷ ls) [] = omega arith
opens-next-le fr (l ∷ ls) (h ∷ hs) = omega (arith, held-closes (short fr (flex_at l h)) h, opens-next-le fr ls hs)

short-closes : (fr : Fr) (l : Line) (h : Bool) → short fr (flex_at l h) ≡ true → cond (short fr (flex_at l h) || h) 0 1 < cond h 0 1
short-closes fr l true e = never e refl
short-closes fr l false e = rw e (omega arith)

opens-next-lt : (fr : Fr) (ls : List Line) (hs : List Bool) → some (short fr) (flexes ls hs) ≡ true → opens (held_next fr ls hs) < opens hs
unfolding opens held_next flexes some
opens-next-lt fr [] hs e = never e refl
opens-next-lt fr (l ∷ ls) [] e = never e refl
opens-next-lt fr (l ∷ ls) (h ∷ hs) e =
    ⊎_elim
    (λ (s : short fr (flex_at l h) ≡ true). omega (arith, short-closes fr l h s, opens-next-le fr ls hs))
    (λ (s : short fr (flex_at l h) ≡ false). omega (arith, held-closes (short fr (flex_at l h)) h, opens-next-lt fr ls hs (rw s at e)))
    (true-or-false (short fr (flex_at l h)))

none-short : (fr : Fr) (ls : List Line) (hs : List Bool) → opens hs ≤ 0 → some (short fr) (flexes ls hs) ≡ false
none-short fr ls hs h =
    ⊎_elim
    (λ (e : some (short fr) (flexes ls hs) ≡ true). let l = opens-next-lt fr ls hs e in absurd (omega arith))
    (λ e. e)
    (true-or-false (some (short fr) (flexes ls hs)))

-- ---- The search's end

-- at the fr of some holds, all of them within their bases, where no other line is short
pub record Ended (space : ℕ) (ls : List Line) (fr : Fr) : Type 0 where
  pub marks : List Bool
  pub is : fr ≡ fr_now space (flexes ls marks)
  pub within : Within (fr_now space (flexes ls marks)) ls marks
  pub settled : some (short (fr_now space (flexes ls marks))) (flexes ls marks) ≡ false

per_pos : (space : ℕ) (ts : List Flex) → 0 < (fr_now space ts).per
unfolding fr_now
per_pos space ts = omega arith

factors-le-per : (space : ℕ) (ts : List Flex) → factors_of ts ≤ (fr_now space ts).per
unfolding fr_now
factors-le-per space ts = omega arith

dots-le-space : (space : ℕ) (ts : List Flex) → (fr_now space ts).dots ≤ space
unfolding fr_now
dots-le-space space ts = omega arith

search-none : (space : ℕ) (ts : List Flex) → search zero space ts ≡ fr_now space ts
unfolding search
search-none space ts = refl

search-ends : (n space : ℕ) (ls : List Line) (hs : List Bool) → opens hs ≤ n → Within (fr_now space (flexes ls hs)) ls hs → Ended space ls (search n space (flexes ls hs))
search-ends zero space ls hs o w = record { marks = hs; is = search-none space (flexes ls hs); within = w; settled = none-short (fr_now space (flexes ls hs)) ls hs o }
search-ends (suc n) space ls hs o w =
    let ts = flexes ls hs in
    let fr = fr_now space ts in
    ⊎_elim
    (λ (e : some (short fr) ts ≡ true).
    let d = rw (sym (flexes-next fr ls hs)) at (search-decreases space ts) in
    let l = opens-next-lt fr ls hs e in
    let r = search-ends n space ls (held_next fr ls hs) (omega arith) (within-next fr (fr_now space (flexes ls (held_next fr ls hs))) ls hs (per_pos space ts) d w) in
    subst (Ended space ls) (sym (search-more n space ts e ∙ ap (search n space) (sym (flexes-next fr ls hs)))) r)
    (λ (e : some (short fr) ts ≡ false). record { marks = hs; is = search-stop n space ts e; within = w; settled = e })
    (true-or-false (some (short fr) ts))

pub search-over-ends : (space : ℕ) (ls : List Line) → Ended space ls (search_over space ls)
unfolding search_over
search-over-ends space ls =
    subst (λ (ts : List Flex). Ended space ls (search (length ls) space ts)) (flexes-first ls) (search-ends (length ls) space ls (held_first ls) (opens-first-le ls) (within_first (fr_now space (flexes ls (held_first ls))) ls))

-- ---- What step 6 adds

-- so many dots for a factor, rounded down
abbrev share_of : ℕ → ℕ → Flex → ℕ
share_of D P t = open_factor t * D / P

shares-le : (D P : ℕ) (ts : List Flex) → sum (map (share_of D P) ts) * P ≤ factors_of ts * D
unfolding sum
shares-le D P [] = omega (arith, zero-mul P, zero-mul D)
shares-le D P (t ∷ ts) =
    omega (arith, add-mul (share_of D P t) (sum (map (share_of D P) ts)) P, add-mul (open_factor t) (factors_of ts) D, div-mul-le_self (open_factor t * D) P, shares-le D P ts)

-- those of the open lines come to no more than the dots
shares-le-dots : (space : ℕ) (ts : List Flex) → sum (map (share_of (fr_now space ts).dots (fr_now space ts).per) ts) ≤ (fr_now space ts).dots
shares-le-dots space ts =
    let D = (fr_now space ts).dots in
    let P = (fr_now space ts).per in
    let a = shares-le D P ts in
    let b : factors_of ts * D ≤ P * D = mul-le-mul_right D (factors-le-per space ts) in
    let c : P * D ≡ D * P = mul_comm P D in
    le_of_mul-le-mul_right {k = P} (omega arith) (per_pos space ts)

-- a line grows by no more than its share while it is open, and not at all once it is held
line-grown-le : (fr : Fr) (l : Line) (h : Bool) → (h ≡ true → is_fr l.track ≡ true → number l * fr.dots ≤ l.base * fr.per)
    → flexed_base fr l ≤ l.base + share_of fr.dots fr.per (flex_at l h)
line-grown-le fr l h w = go (is_fr l.track) h refl refl
  where
    go : (b k : Bool) → is_fr l.track ≡ b → h ≡ k → flexed_base fr l ≤ l.base + share_of fr.dots fr.per (flex_at l h)
    go false k e f = rw e (omega arith)
    go true false e f = rw (e, f) (omega arith)
    go true true e f =
        let a : number l * fr.dots / fr.per ≤ l.base = div-le_of_le-mul fr.per (rw (mul_comm fr.per l.base) (w f e)) in
        rw e (omega arith)

grown-le : (fr : Fr) (ls : List Line) (hs : List Bool) → Within fr ls hs → bases (expand fr ls) ≤ bases ls + sum (map (share_of fr.dots fr.per) (flexes ls hs))
unfolding Within bases expand flexes sum
grown-le fr [] hs w = omega arith
grown-le fr (l ∷ ls) [] w = absurd w
grown-le fr (l ∷ ls) (h ∷ hs) w = omega (arith, line-grown-le fr l h w.0, grown-le fr ls hs w.1)

-- the bases after a search over a space exceed those before it by no more than the space
pub bases-expand-le : (n : ℕ) (ls : List Line) → bases (expand (search_over n ls) ls) ≤ bases ls + n
bases-expand-le n ls =
    let e = search-over-ends n ls in
    let ts = flexes ls e.marks in
    rw e.is (omega (arith, grown-le (fr_now n ts) ls e.marks e.within, shares-le-dots n ts, dots-le-space n ts))

-- no growth adds nothing
line-none-le : (l : Line) → flexed_base no_fr l ≤ l.base
line-none-le l = go (is_fr l.track)
  where
    go : (b : Bool) → cond b (max l.base (number l * 0 / 1000)) l.base ≤ l.base
    go true = let a : number l * 0 / 1000 ≤ l.base = div-le_of_le-mul 1000 (omega arith) in omega arith
    go false = omega arith

none-le : (ls : List Line) → bases (expand no_fr ls) ≤ bases ls
unfolding bases expand sum
none-le [] = omega arith
none-le (l ∷ ls) = omega (arith, line-none-le l, none-le ls)

-- the same of step 6 in a definite space
pub bases-definite-le : (n : ℕ) (ls : List Line) → bases (expand (definite_fr n ls) ls) ≤ bases ls + n
bases-definite-le n ls = go (ltb (bases ls) n)
  where
    go : (b : Bool) → bases (expand (cond b (search_over n ls) no_fr) ls) ≤ bases ls + n
    go true = bases-expand-le n ls
    go false = omega (arith, none-le ls)
