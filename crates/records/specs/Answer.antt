-- The code's refusals and its steps in the words of the rule: each refusal by the paper's number and place. Assumes nothing.
use Rattle.std.specs.Prelude.{ℕ, ◌+◌, cond, eqb, Result, Ok, Err}
use Rattle.laws.specs.Lists.{among}
use Rattle.records.specs.Rule.{Tags, Fault, fine, fault, unless}
use Rattle.records.specs.declared.refusal.Refusal.{Refusal}
use Rattle.records.specs.declared.refusal.Refusal.TheVariants.{Short, BytesOver, Count, Tag, StrayNumber, LentTooShort}
use Rattle.records.specs.declared.tags.Use.{Use}
use Rattle.records.specs.declared.tags.Use.TheVariants.{Carries, Bare, Unlisted}

-- ---- Refusals

-- The paper's number of each refusal, and its place.
abbrev pub number_of : Refusal → ℕ
number_of (Short length) = 1
number_of (BytesOver at) = 2
number_of (Count at) = 3
number_of (Tag at) = 4
number_of (StrayNumber at) = 5
number_of LentTooShort = 6

abbrev pub place_of : Refusal → ℕ
place_of (Short length) = length
place_of (BytesOver at) = at
place_of (Count at) = at
place_of (Tag at) = at
place_of (StrayNumber at) = at
place_of LentTooShort = 0

abbrev pub refusal_fault : Refusal → Fault
refusal_fault refusal = fault (number_of refusal) (place_of refusal)

-- what a look at a part of a sheet finds
abbrev pub fault_of : Result Unit Refusal → Fault
fault_of (Ok none) = fine
fault_of (Err refusal) = refusal_fault refusal

-- ---- Steps of the code

-- the last place that a number of the machine can name
abbrev pub last_place : ℕ
last_place = 18446744073709551615

-- what a tag says of the number beside it
abbrev pub use_of : Tags → ℕ → Use
use_of tags tag = cond (among tags.carrying tag) Carries (cond (among tags.bare tag) Bare Unlisted)

abbrev pub use_fault : Use → ℕ → ℕ → Fault
use_fault Carries n at = fine
use_fault Bare n at = unless (eqb n 0) (fault 5 (at + 1))
use_fault Unlisted n at = fault 4 at
