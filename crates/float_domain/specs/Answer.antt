-- The code's refusals in the words of the rule, the paper's number and place of each, and its steps. Assumes nothing.
use Rattle.std.specs.Prelude.{ℕ, ◌^◌, Result, Ok, Err}
use Rattle.laws.specs.Faults.{Fault, fine, fault}
use Rattle.float_domain.specs.declared.refusal.Refusal.{Refusal}
use Rattle.float_domain.specs.declared.refusal.Refusal.TheVariants.{Lengths, Gutters, Outside}

abbrev pub number_of : Refusal → ℕ
number_of Lengths = 12
number_of Gutters = 14
number_of (Outside index) = 13

abbrev pub place_of : Refusal → ℕ
place_of Lengths = 0
place_of Gutters = 0
place_of (Outside index) = index

-- what a test of a call finds
abbrev pub fault_of : Result Unit Refusal → Fault
fault_of (Ok passed) = fine
fault_of (Err refusal) = fault (number_of refusal) (place_of refusal)

-- ---- Steps of the code

-- below these the first index of a slice's numbers, and that of one track's, leaves room in a number of the machine for those behind it
abbrev pub room_for_slice : ℕ
room_for_slice = 2 ^ 62

abbrev pub room_for_track : ℕ
room_for_track = 2 ^ 63
