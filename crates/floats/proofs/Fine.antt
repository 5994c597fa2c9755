-- What a call that is not refused is known by: its lengths fit. Assumes nothing.
use mathlib.Core.Path.{◌≡◌}
use mathlib.Core.Bool.{true}
use mathlib.Core.List.{List}
use Prim.Native.Nat.{ℕ}
use Rattle.laws.specs.Faults.{Fault, fine, first, fine-both, fine-test}
use Rattle.float_domain.specs.Domain.{lengths_fit, lengths_fault}

-- the lengths of a call whose first test is theirs
pub lengths-of-fine : (n : ℕ) (ms : List ℕ) (rest : Fault) → first (lengths_fault n ms) rest ≡ fine → lengths_fit n ms ≡ true
lengths-of-fine n ms rest h = fine-test (lengths_fit n ms) 12 0 (fine-both (lengths_fault n ms) rest h).0
