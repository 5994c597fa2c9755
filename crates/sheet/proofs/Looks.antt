-- Bytes that reach to a place, and records that are looked at one after another. Assumes nothing.
use mathlib.Core.Path.{◌≡◌, refl, sym}
use Prim.Native.Nat.{ℕ, zero, suc, ◌+◌, ◌-◌, ◌≤◌, ◌<◌}
use native.Mathlib.Nat.{not-suc-le-zero}
use native.Mathlib.Omega.{arith}
use mathlib.Core.List.{List}
use lib.Dec.{leb}
use lib.ListN.{length}
use borrow.Author.Tests.{leb-true, le-leb}
use Rattle.laws.specs.Faults.{first-assoc, fine-test}
use Rattle.sheet.specs.Rule.{Part, record_size, row_at, Fault, fine, first, whole_to, row_fault, records_fault}

-- ---- bytes that reach to a place, or do not

pub whole-fine : (bytes : List ℕ) (to : ℕ) → to ≤ length bytes → whole_to bytes to ≡ fine
whole-fine bytes to h = rw (le-leb to (length bytes) h)

pub fine-whole : (bytes : List ℕ) (to : ℕ) → whole_to bytes to ≡ fine → to ≤ length bytes
fine-whole bytes to e = leb-true _ _ (fine-test (leb to (length bytes)) _ _ e)

-- ---- records, one after another

module _ (parts : List Part) (bytes : List ℕ) where
  -- what is wrong with the record at a place
  abbrev pub record_fault : ℕ → Fault
  record_fault place = first (whole_to bytes (place + record_size parts)) (row_fault parts (row_at parts bytes place) place)

  pub records-first : (n place : ℕ) → 0 < n → records_fault parts bytes n place ≡ first (record_fault place) (records_fault parts bytes (n - 1) (place + record_size parts))
  unfolding records_fault
  records-first zero place h = absurd (not-suc-le-zero h)
  records-first (suc n) place h =
      let e : suc n - 1 ≡ n = omega arith in
      rw e (sym (first-assoc (whole_to bytes (place + record_size parts)) (row_fault parts (row_at parts bytes place) place) (records_fault parts bytes n (place + record_size parts))))

  pub records-none : (place : ℕ) → fine ≡ records_fault parts bytes 0 place
  unfolding records_fault
  records-none place = refl
