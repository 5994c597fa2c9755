-- 3, a count that is not allowed: what a look that finds none says of the count. Assumes nothing.
use mathlib.Core.Path.{◌≡◌}
use Prim.Native.Nat.{ℕ, ◌≤◌}
use lib.Dec.{leb}
use borrow.Author.Tests.{leb-true}
use Rattle.laws.specs.Faults.{Fault, fine, fault, first, unless, fine-both, fine-test}

-- no fault, so a count within its limit, and none behind it
pub le-of-count-fine : (n most place : ℕ) (behind : Fault) → first (unless (leb n most) (fault 3 place)) behind ≡ fine → (n ≤ most) × (behind ≡ fine)
le-of-count-fine n most place behind e =
    let f = fine-both (unless (leb n most) (fault 3 place)) behind e in
    (leb-true n most (fine-test (leb n most) 3 place f.0), f.1)
