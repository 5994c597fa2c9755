-- The numbers of a call looked through in order, what a fault says, and what lengths that fit say. Assumes nothing.
use mathlib.Core.Path.{◌≡◌, refl, sym, ap, ◌∙◌}
use mathlib.Core.Bool.{Bool, true, false, cond}
use mathlib.Core.List.{List, [], ◌∷◌, ◌++◌}
use Prim.Native.Nat.{ℕ, suc, ◌+◌, ◌*◌, ◌≤◌, ◌<◌}
use native.Mathlib.Omega.{arith}
use lib.Dec.{eqb}
use lib.Ieee.{Float, nan}
use lib.ListN.{length, get_or, drop, length-map, drop_of_length-le}
use borrow.Author.Tests.{leb-true, eqb-true}
use Rattle.std.specs.Prelude.{Result, Ok, Err, IsErrAnd}
use Rattle.laws.specs.Lists.{All}
use Rattle.laws.specs.Tests.{both_true}
use Rattle.laws.specs.Walk.{next}
use Rattle.laws.specs.Faults.{Fault, fine, fault, first, fault-not-fine}
use Rattle.float_laws.specs.Numbers.{most_tracks}
use Rattle.float_domain.specs.declared.kind.Kind.{Kind}
use Rattle.float_domain.specs.declared.kind.Kind.TheVariants.{Size, Limit}
use Rattle.float_domain.specs.declared.refusal.Refusal.{Refusal}
use Rattle.float_domain.specs.declared.refusal.Refusal.TheVariants as refusal
use Rattle.float_domain.specs.Domain.{Number, given, accepted, numbers_of, track_numbers, tracks_numbers, outside_from, lengths_fit}
use Rattle.float_domain.specs.Answer.{number_of, place_of, fault_of}

-- ---- a fault of the code is known by the rule's: from its number and place, the refusal can be made again

refusal_of : (number place : ℕ) → Refusal
refusal_of number place = cond (eqb number 12) refusal.Lengths (cond (eqb number 14) refusal.Gutters (refusal.Outside place))

refusal-again : (r : Refusal) → refusal_of (number_of r) (place_of r) ≡ r
unfolding refusal_of
refusal-again refusal.Lengths = refl
refusal-again refusal.Gutters = refl
refusal-again (refusal.Outside index) = refl

found_of : Fault → Result Unit Refusal
found_of fine = Ok tt
found_of (fault number place) = Err (refusal_of number place)

found-again : (a : Result Unit Refusal) → found_of (fault_of a) ≡ a
unfolding found_of
found-again (Ok passed) = refl
found-again (Err r) = ap Err (refusal-again r)

pub found-of-fault : (a b : Result Unit Refusal) → fault_of a ≡ fault_of b → a ≡ b
found-of-fault a b e = sym (found-again a) ∙ ap found_of e ∙ found-again b

-- ---- 13: numbers one after another

pub outside-append : (k : ℕ) (xs ys : List Number) → outside_from k (xs ++ ys) ≡ first (outside_from k xs) (outside_from (k + length xs) ys)
unfolding outside_from
outside-append k [] ys = ap (λ (i : ℕ). outside_from i ys) (omega arith)
outside-append k (x ∷ xs) ys =
    let place : suc k + length xs ≡ k + suc (length xs) = omega arith in
    by-test (accepted x) (outside_from (suc k) xs) (outside_from (k + suc (length xs)) ys) (rw place at (outside-append (suc k) xs ys))
  where
    by-test : (b : Bool) {u : Fault} (v w : Fault) → u ≡ first v w → cond b u (fault 13 k) ≡ first (cond b v (fault 13 k)) w
    by-test true v w e = e
    by-test false v w e = refl

-- the code looks at one number, and then at those behind it
pub outside-cons : (k j : ℕ) (x : Number) (ys : List Number) → j ≡ k + 1 → outside_from k (x ∷ ys) ≡ first (outside_from k (x ∷ [])) (outside_from j ys)
outside-cons k j x ys n = rw n (outside-append k (x ∷ []) ys)

-- or at a run of numbers
pub outside-run : (k j : ℕ) (xs ys : List Number) → j ≡ k + length xs → outside_from k (xs ++ ys) ≡ first (outside_from k xs) (outside_from j ys)
outside-run k j xs ys n = rw n (outside-append k xs ys)

-- a track's numbers, as the code looks at them
pub track-in-order : (k : ℕ) (row : List Float) → outside_from k (track_numbers row)
    ≡ first (outside_from k (given Size (get_or row 0 nan) ∷ []))
    (first (outside_from (k + 1) (given Limit (get_or row 1 nan) ∷ []))
    (first (outside_from (k + 2) (given Size (get_or row 2 nan) ∷ []))
    (first (outside_from (k + 3) (given Size (get_or row 3 nan) ∷ [])) (outside_from (k + 4) (given Size (get_or row 4 nan) ∷ [])))))
track-in-order k row =
    let base = given Size (get_or row 0 nan) in
    let limit = given Limit (get_or row 1 nan) in
    let base-planned = given Size (get_or row 2 nan) in
    let limit-planned = given Size (get_or row 3 nan) in
    let incurred = given Size (get_or row 4 nan) in
    rw (outside-cons k (k + 1) base _ refl, outside-cons (k + 1) (k + 2) limit _ (omega arith), outside-cons (k + 2) (k + 3) base-planned _ (omega arith), outside-cons (k + 3) (k + 4) limit-planned _ (omega arith)) refl

-- a refusal that is handed on is the one that was found
pub is-refused : {T : Type 0} (r : Result T Refusal) (found : Refusal) → IsErrAnd r (λ y. y ≡ found) → r ≡ Err found
is-refused (Ok x) found h = absurd h
is-refused (Err y) found h = ap Err h

-- for the check of a look at a track
pub ruleset in_order = (is-refused, track-in-order)

-- The code walks numbers and has come to those from k on, of which the first ones are looked at now: it finds a refusal in them, or none.
module _ (k : ℕ) {all : List Number} (front rest : List Number) (parted : all ≡ front ++ rest) {whole : Fault} (walk : outside_from k all ≡ whole) where
  front-first : first (outside_from k front) (outside_from (k + length front) rest) ≡ whole
  front-first = sym (outside-append k front rest) ∙ (rw parted at walk)

  pub outside-found : (r : Refusal) → fault_of (Err r) ≡ outside_from k front → fault_of (Err r) ≡ whole
  outside-found r here = rw (← here) at front-first

  pub outside-next : (j : ℕ) → j ≡ k + length front → fine ≡ outside_from k front → outside_from j rest ≡ whole
  outside-next j n here = rw n (rw (← here) at front-first)

-- the walk's end
pub outside-end : (k : ℕ) {all : List Number} {whole : Fault} → outside_from k all ≡ whole → all ≡ [] → fine ≡ whole
unfolding outside_from
outside-end k walk none = rw none at walk

-- numbers of which none is outside
abbrev pub IsAccepted : Number → Type 0
IsAccepted n = accepted n ≡ true

pub accepted-of-fine : (k : ℕ) (ns : List Number) → outside_from k ns ≡ fine → All IsAccepted ns
unfolding outside_from All
accepted-of-fine k [] h = tt
accepted-of-fine k (n ∷ ns) h = let both = passed (accepted n) (outside_from (suc k) ns) h in (both.0, accepted-of-fine (suc k) ns both.1)
  where
    passed : (b : Bool) (rest : Fault) → cond b rest (fault 13 k) ≡ fine → (b ≡ true) × (rest ≡ fine)
    passed true rest e = (refl, e)
    passed false rest e = absurd (fault-not-fine 13 k e)

pub length-numbers-of : (kind : Kind) (xs : List Float) → length (numbers_of kind xs) ≡ length xs
length-numbers-of kind xs = length-map xs (given kind)

pub length-tracks-numbers : (rows : List (List Float)) → length (tracks_numbers rows) ≡ 5 * length rows
unfolding tracks_numbers
length-tracks-numbers [] = refl
length-tracks-numbers (row ∷ rows) = let rest = length-tracks-numbers rows in omega (arith, rest)

-- the numbers from the place i on: the first of them and those behind it, or none
pub numbers-from : (kind : Kind) (xs : List Float) (i : ℕ) → i < length xs
    → numbers_of kind (drop i xs) ≡ given kind (get_or xs i nan) ∷ numbers_of kind (drop (i + 1) xs)
numbers-from kind xs i h = ap (numbers_of kind) (next xs i nan h)

pub numbers-end : (kind : Kind) (xs : List Float) (i : ℕ) → length xs ≤ i → numbers_of kind (drop i xs) ≡ []
numbers-end kind xs i h = ap (numbers_of kind) (drop_of_length-le xs h)

pub tracks-from : (rows : List (List Float)) (i : ℕ) → i < length rows
    → tracks_numbers (drop i rows) ≡ track_numbers (get_or rows i []) ++ tracks_numbers (drop (i + 1) rows)
unfolding tracks_numbers
tracks-from rows i h = ap tracks_numbers (next rows i [] h)

pub tracks-end : (rows : List (List Float)) (i : ℕ) → length rows ≤ i → tracks_numbers (drop i rows) ≡ []
unfolding tracks_numbers
tracks-end rows i h = ap tracks_numbers (drop_of_length-le rows h)

-- ---- 12: lengths that fit

pub lengths-fit-head : (n m : ℕ) (ms : List ℕ) → lengths_fit n (m ∷ ms) ≡ true → (m ≡ n) × (lengths_fit n ms ≡ true)
lengths-fit-head n m ms e = let both = both_true (eqb m n) (lengths_fit n ms) e in (eqb-true m n both.0, both.1)

pub lengths-fit-le : (n : ℕ) (ms : List ℕ) → lengths_fit n ms ≡ true → n ≤ most_tracks
lengths-fit-le n [] e = leb-true n most_tracks e
lengths-fit-le n (m ∷ ms) e = lengths-fit-le n ms (lengths-fit-head n m ms e).1
