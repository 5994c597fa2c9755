-- Words for faults in which the rules of what is refused are said, with what a proof asks of each. Assumes nothing.
use Rattle.std.specs.Prelude.{◌≡◌, refl, Bool, true, false, ℕ, leb}
use Rattle.std.proofs.Common.{arith}

-- No fault, or the refusal's number and place.
pub data Fault : Type 0 where
  fine : Fault
  fault : (number place : ℕ) → Fault

-- the first of two that is a fault
abbrev pub first : Fault → Fault → Fault
first fine next = next
first (fault number place) next = fault number place

abbrev pub unless : Bool → Fault → Fault
unless true f = fine
unless false f = f

-- 6: fewer are lent than are wanted
abbrev pub enough : (wanted lent : ℕ) → Fault
enough wanted lent = unless (leb wanted lent) (fault 6 0)

-- ---- laws

pub first_fine : (f : Fault) → first f fine ≡ f
first_fine fine = refl
first_fine (fault number place) = refl

pub first-assoc : (f g h : Fault) → first (first f g) h ≡ first f (first g h)
first-assoc fine g h = refl
first-assoc (fault number place) g h = refl

-- what comes behind a fault does not matter
pub first-where : (f : Fault) {g h : Fault} → (f ≡ fine → g ≡ h) → first f g ≡ first f h
first-where fine e = e refl
first-where (fault number place) e = refl

-- where the first of two is no fault, neither is one
pub fine-both : (f g : Fault) → first f g ≡ fine → (f ≡ fine) × (g ≡ fine)
fine-both fine g e = (refl, e)
fine-both (fault number place) g e = (e, cc)

pub fine-test : (t : Bool) (number place : ℕ) → unless t (fault number place) ≡ fine → t ≡ true
fine-test true number place e = refl
fine-test false number place e = cc

pub fault-not-fine : (number place : ℕ) → fault number place ≡ fine → ⊥
fault-not-fine number place e = let z : ◌≡◌ {A = ℕ} 0 1 = cc in omega arith
