-- The check of a list of edges, entry by entry as the walks go, and what a list keeps that passes it. Assumes nothing.
use mathlib.Core.Path.{◌≡◌, refl, sym, ap, ◌∙◌}
use mathlib.Core.Logic.{⊎_elim}
use mathlib.Core.Bool.{Bool, ◌||◌, or_assoc, or-false}
use mathlib.Core.List.{List, [], ◌∷◌}
use Prim.Native.Nat.{ℕ, zero, suc, ◌+◌, ◌-◌, ◌≤◌, ◌<◌}
use native.Mathlib.Nat.{le_of_suc-le-suc, not-suc-le-zero, le_refl}
use native.Mathlib.Omega.{arith}
use lib.Dec.{ltb, leb, eqb}
use lib.ListN.{length, get_or, drop, drop_of_length-le}
use borrow.Author.Tests.{lt-ltb, le-ltb, lt-leb, le-leb, leb-true, eqb-true}
use Rattle.laws.specs.Tests.{lt-or-ge}
use Rattle.laws.specs.Faults.{fine-both, fine-test}
use Rattle.laws.specs.Walk.{next}
use Rattle.edges.specs.Rule.{Fault, fine, fault, first, unless, fall_fault, edges_fault}
use Rattle.edges.specs.Steps.{is_fault}

-- ---- the walk

-- what the entries from i on are refused for
abbrev pub falls_at : List ℕ → ℕ → Fault
falls_at es i = fall_fault i (get_or es (i - 1) 0) (drop i es)

module _ (es : List ℕ) (i : ℕ) where
  pub falls-next : i < length es → falls_at es i ≡ first (unless (leb (get_or es (i - 1) 0) (get_or es i 0)) (fault 15 i)) (falls_at es (i + 1))
  unfolding fall_fault
  falls-next h = let e : (i + 1) - 1 ≡ i = omega arith in rw (next es i 0 h, e)

  pub falls-end : length es ≤ i → falls_at es i ≡ fine
  unfolding fall_fault
  falls-end h = rw (drop_of_length-le es h)

  module _ (h : i < length es) where
    pub falls-here : get_or es i 0 < get_or es (i - 1) 0 → falls_at es i ≡ fault 15 i
    falls-here l = falls-next h ∙ rw (lt-leb (get_or es (i - 1) 0) (get_or es i 0) l)

    pub falls-behind : get_or es (i - 1) 0 ≤ get_or es i 0 → falls_at es i ≡ falls_at es (i + 1)
    falls-behind l = falls-next h ∙ rw (le-leb (get_or es (i - 1) 0) (get_or es i 0) l)

    -- whether there is a fault, without a branch
    pub fault-next : is_fault (falls_at es i) ≡ ltb (get_or es i 0) (get_or es (i - 1) 0) || is_fault (falls_at es (i + 1))
    fault-next =
        ⊎_elim
        (λ (l : get_or es i 0 < get_or es (i - 1) 0). rw (falls-here l, lt-ltb (get_or es i 0) (get_or es (i - 1) 0) l))
        (λ (l : get_or es (i - 1) 0 ≤ get_or es i 0). rw (falls-behind l, le-ltb (get_or es i 0) (get_or es (i - 1) 0) l))
        (lt-or-ge (get_or es i 0) (get_or es (i - 1) 0))

  module _ (fallen w : Bool) where
    -- a turn of the walk that looks for any fault, and its end
    pub fault-turn : i < length es → (fallen || is_fault (falls_at es i)) ≡ w → ((fallen || ltb (get_or es i 0) (get_or es (i - 1) 0)) || is_fault (falls_at es (i + 1))) ≡ w
    fault-turn h e = or_assoc fallen _ _ ∙ ap (fallen ||◌) (sym (fault-next h)) ∙ e

    pub fault-end : length es ≤ i → (fallen || is_fault (falls_at es i)) ≡ w → fallen ≡ w
    fault-end h e = sym (or-false fallen) ∙ ap (λ (f : Fault). fallen || is_fault f) (sym (falls-end h)) ∙ e

-- ---- a list that passes

-- its second entry is not below the first, and from there on it passes
pub fall-fine : (place before e : ℕ) (es : List ℕ) → fall_fault place before (e ∷ es) ≡ fine → (before ≤ e) × (fall_fault (place + 1) e es ≡ fine)
unfolding fall_fault
fall-fine place before e es f =
    let both = fine-both (unless (leb before e) (fault 15 place)) (fall_fault (place + 1) e es) f in
    (leb-true before e (fine-test (leb before e) 15 place both.0), both.1)

start_fine : (e : ℕ) (es : List ℕ) → edges_fault (e ∷ es) ≡ fine → (e ≡ 0) × (fall_fault 1 e es ≡ fine)
start_fine e es f =
    let both = fine-both (unless (eqb e 0) (fault 15 0)) (fall_fault 1 e es) f in
    (eqb-true e 0 (fine-test (eqb e 0) 15 0 both.0), both.1)

pub behind-fine : (e : ℕ) (es : List ℕ) → edges_fault (e ∷ es) ≡ fine → fall_fault 1 e es ≡ fine
behind-fine e es f = (start_fine e es f).1

below_all : (place before : ℕ) (es : List ℕ) → fall_fault place before es ≡ fine → (j : ℕ) → j < length es → before ≤ get_or es j 0
below_all place before [] f j h = absurd (not-suc-le-zero h)
below_all place before (e ∷ es) f zero h = (fall-fine place before e es f).0
below_all place before (e ∷ es) f (suc j) h =
    let both = fall-fine place before e es f in
    let there = below_all (place + 1) e es both.1 j (le_of_suc-le-suc h) in
    omega (arith, both.0, there)

-- it never falls
pub rises-from : (place before : ℕ) (es : List ℕ) → fall_fault place before es ≡ fine → (i j : ℕ) → i ≤ j → j < length (before ∷ es)
    → get_or (before ∷ es) i 0 ≤ get_or (before ∷ es) j 0
rises-from place before es f zero zero l h = le_refl before
rises-from place before es f zero (suc j) l h = below_all place before es f j (le_of_suc-le-suc h)
rises-from place before es f (suc i) zero l h = absurd (not-suc-le-zero l)
rises-from place before [] f (suc i) (suc j) l h = absurd (not-suc-le-zero (le_of_suc-le-suc h))
rises-from place before (e ∷ es) f (suc i) (suc j) l h = rises-from (place + 1) e es (fall-fine place before e es f).1 i j (le_of_suc-le-suc l) (le_of_suc-le-suc h)

pub rises : (es : List ℕ) → edges_fault es ≡ fine → (i j : ℕ) → i ≤ j → j < length es → get_or es i 0 ≤ get_or es j 0
rises [] f i j l h = absurd (not-suc-le-zero h)
rises (e ∷ es) f i j l h = rises-from 1 e es (behind-fine e es f) i j l h

-- its first entry is 0
pub starts-at-zero : (es : List ℕ) → edges_fault es ≡ fine → get_or es 0 0 ≡ 0
starts-at-zero [] f = refl
starts-at-zero (e ∷ es) f = (start_fine e es f).0
