-- Answers that tell the same are the same: from its number and place, a refusal can be made again. Assumes nothing.
use mathlib.Core.Path.{◌≡◌, refl, sym, ap, ◌∙◌}
use mathlib.Core.Bool.{cond}
use Prim.Native.Nat.{ℕ}
use lib.Dec.{eqb}
use Rattle.records.specs.Rule.{Fault, fine, fault}
use Rattle.checks.specs.Answer.{number_of, place_of, fault_of}
use Rattle.checks.specs.declared.refusal.Refusal.{Refusal}
use Rattle.checks.specs.declared.refusal.Refusal.TheVariants.{NumberOver, OutsideTracks, ContributionMissing, RowFalls}
use Rattle.std.specs.Prelude.{Result, Ok, Err}

refusal_of : (number place : ℕ) → Refusal
refusal_of number place =
    cond (eqb number 7) (NumberOver place)
    (cond (eqb number 8) (OutsideTracks place)
    (cond (eqb number 9) (ContributionMissing place) (RowFalls place)))

refusal-again : (r : Refusal) → refusal_of (number_of r) (place_of r) ≡ r
unfolding refusal_of
refusal-again (NumberOver place) = refl
refusal-again (OutsideTracks place) = refl
refusal-again (ContributionMissing place) = refl
refusal-again (RowFalls place) = refl

answer_of : Fault → Result Unit Refusal
answer_of fine = Ok tt
answer_of (fault number place) = Err (refusal_of number place)

answer-again : (a : Result Unit Refusal) → answer_of (fault_of a) ≡ a
unfolding answer_of
answer-again (Ok done) = refl
answer-again (Err refusal) = ap Err (refusal-again refusal)

pub answer-of-fault : (a b : Result Unit Refusal) → fault_of a ≡ fault_of b → a ≡ b
answer-of-fault a b e = sym (answer-again a) ∙ ap answer_of e ∙ answer-again b
