-- Marks among the open rests, and what the marked ones lose. Assumes nothing.
use Rattle.std.proofs.Common.{◌≡◌, ℕ, zero, suc, ◌+◌, ◌-◌, ◌≤◌, Bool, false, ltb, List, [], ◌∷◌, length, get_or, refl, ap, ◌∙◌, arith}
use Rattle.laws.specs.Marks.{bit, bit-ltb, number}
use Rattle.laws.specs.Sums.{sum}
use Rattle.rounds.specs.Rule.{odd_takers}
use Rattle.rounds.specs.Rests.{open_rests, open_marks, take_marked, take_odd}
use Rattle.rounds.proofs.Odd.{odd-length, odd-open, odd_number}

pub number-open : (xs : List ℕ) → number (open_marks xs) ≡ open_rests xs
unfolding number open_marks open_rests
number-open [] = refl
number-open (x ∷ xs) = omega (arith, bit-ltb x, number-open xs)

pub open-length : (xs : List ℕ) → length (open_marks xs) ≡ length xs
unfolding open_marks
open-length [] = refl
open-length (x ∷ xs) = ap suc (open-length xs)

pub open_at : (xs : List ℕ) (i : ℕ) → get_or (open_marks xs) i false ≡ ltb 0 (get_or xs i 0)
unfolding open_marks
open_at [] i = refl
open_at (x ∷ xs) zero = refl
open_at (x ∷ xs) (suc i) = open_at xs i

-- one mark for each rest, and none at a rest of 0
pub data Among : List Bool → List ℕ → Type 0 where
  none : Among [] []
  one : {m : Bool} {x : ℕ} {ms : List Bool} {xs : List ℕ} → bit m ≤ x → Among ms xs → Among (m ∷ ms) (x ∷ xs)

among_of : (ms : List Bool) (xs : List ℕ) → length ms ≡ length xs → ((i : ℕ) → bit (get_or ms i false) ≤ bit (get_or (open_marks xs) i false)) → Among ms xs
unfolding open_marks
among_of [] [] e h = none
among_of [] (x ∷ xs) e h = absurd (omega arith)
among_of (m ∷ ms) [] e h = absurd (omega arith)
among_of (m ∷ ms) (x ∷ xs) e h = one {m = m} {x = x} (omega (arith, h 0, bit-ltb x)) (among_of ms xs (omega arith) (λ i. h (suc i)))

pub odd-among : (d : ℕ) (xs : List ℕ) → Among (odd_takers d (open_marks xs)) xs
odd-among d xs = among_of _ xs (odd-length d (open_marks xs) ∙ open-length xs) (odd-open d (open_marks xs))

-- ---- what the marked ones lose

pub marked-sum : {ms : List Bool} {xs : List ℕ} → Among ms xs → sum (take_marked ms xs) + number ms ≡ sum xs
unfolding sum take_marked number
marked-sum none = refl
marked-sum (one h a) = omega (arith, marked-sum a)

pub marked-length : {ms : List Bool} {xs : List ℕ} → Among ms xs → length (take_marked ms xs) ≡ length xs
unfolding take_marked
marked-length none = refl
marked-length (one h a) = ap suc (marked-length a)

-- the odd dots are all taken, where there are enough open rests
pub odd-sum : (d : ℕ) (xs : List ℕ) → d ≤ open_rests xs → sum (take_odd d xs) + d ≡ sum xs
odd-sum d xs h = omega (arith, marked-sum (odd-among d xs), odd_number d (open_marks xs), number-open xs)

-- no marks, no loss
no-marks : {ms : List Bool} {xs : List ℕ} → Among ms xs → number ms ≡ 0 → take_marked ms xs ≡ xs
unfolding number take_marked
no-marks none e = refl
no-marks (one {m = m} {x = x} h a) e = let z : x - bit m ≡ x = omega arith in rw (z, no-marks a (omega arith))

pub odd-zero : (xs : List ℕ) → take_odd 0 xs ≡ xs
odd-zero xs = no-marks (odd-among 0 xs) (omega (arith, odd_number 0 (open_marks xs)))
