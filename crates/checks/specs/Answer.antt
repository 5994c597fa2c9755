-- The code's answers in the words of the rule: each refusal by the paper's number and place. Assumes nothing.
use Rattle.std.specs.Prelude.{ℕ, Result, Ok, Err}
use Rattle.records.specs.Rule.{Fault, fine, fault}
use Rattle.checks.specs.declared.refusal.Refusal.{Refusal}
use Rattle.checks.specs.declared.refusal.Refusal.TheVariants.{NumberOver, OutsideTracks, ContributionMissing, RowFalls}

-- The paper's number of each refusal, and its place.
abbrev pub number_of : Refusal → ℕ
number_of (NumberOver place) = 7
number_of (OutsideTracks place) = 8
number_of (ContributionMissing place) = 9
number_of (RowFalls place) = 10

abbrev pub place_of : Refusal → ℕ
place_of (NumberOver place) = place
place_of (OutsideTracks place) = place
place_of (ContributionMissing place) = place
place_of (RowFalls place) = place

abbrev pub refusal_fault : Refusal → Fault
refusal_fault refusal = fault (number_of refusal) (place_of refusal)

abbrev pub fault_of : Result Unit Refusal → Fault
fault_of (Ok done) = fine
fault_of (Err refusal) = refusal_fault refusal
