-- Bytes that agree up to a place say the same there, and where both reach so far they show the same faults. Assumes nothing.
use mathlib.Core.Path.{◌≡◌, refl, sym, ap, ap₂, ◌∙◌}
use mathlib.Core.Bool.{true}
use Prim.Native.Nat.{ℕ, zero, suc, ◌+◌, ◌*◌, ◌≤◌, ◌<◌}
use native.Mathlib.Omega.{arith}
use mathlib.Core.List.{List, [], ◌∷◌}
use lib.ListN.{length}
use Rattle.laws.specs.Faults.{first-where}
use Rattle.sheet.specs.Rule.{byte_at, two_at, four_at, Part, tagged, mark, pair, record_size, row_at, track_record, whole_to, records_fault, Section, count_fault, section_fault, section_end, tracks_at, items_at}
use Rattle.sheet.proofs.Looks.{whole-fine}
use Rattle.sheet.proofs.Accepted.{count-fine}

module _ (b c : List ℕ) (n : ℕ) (same : (i : ℕ) → i < n → byte_at b i ≡ byte_at c i) where
  pub two-same : (p : ℕ) → p + 2 ≤ n → two_at b p ≡ two_at c p
  two-same p h = ap₂ (λ (x y : ℕ). x + 256 * y) (same p (omega arith)) (same (p + 1) (omega arith))

  pub four_same : (p : ℕ) → p + 4 ≤ n → four_at b p ≡ four_at c p
  four_same p h = ap₂ (λ (x y : ℕ). x + 65536 * y) (two-same p (omega arith)) (two-same (p + 2) (omega arith))

  row_same : (parts : List Part) (p : ℕ) → p + record_size parts ≤ n → row_at parts b p ≡ row_at parts c p
  unfolding row_at record_size
  row_same [] p h = refl
  row_same (tagged tags ∷ parts) p h = rw (same p (omega arith), four_same (p + 1) (omega arith), row_same parts (p + 5) (omega arith))
  row_same (mark listed ∷ parts) p h = rw (same p (omega arith), row_same parts (p + 1) (omega arith))
  row_same (pair ∷ parts) p h = rw (four_same p (omega arith), row_same parts (p + 4) (omega arith))

  pub items-at-same : tracks_at + 2 ≤ n → items_at b ≡ items_at c
  items-at-same h = ap (λ (k : ℕ). tracks_at + 2 + k * record_size track_record) (two-same tracks_at h)

  module _ (in_b : n ≤ length b) (in_c : n ≤ length c) where
    whole_same : (to : ℕ) → to ≤ n → whole_to b to ≡ whole_to c to
    whole_same to h = whole-fine b to (omega arith) ∙ sym (whole-fine c to (omega arith))

    records-same : (parts : List Part) (k p : ℕ) → p + k * record_size parts ≤ n → records_fault parts b k p ≡ records_fault parts c k p
    unfolding records_fault
    records-same parts zero p h = refl
    records-same parts (suc k) p h =
        rw (whole_same (p + record_size parts) (omega arith), row_same parts p (omega arith), records-same parts k (p + record_size parts) (omega arith))

    -- the records are looked at only where their number is allowed
    pub section-same : (section : Section) (p : ℕ) → p + 2 ≤ n → (section.allows (two_at b p) ≡ true → section_end section b p ≤ n) → section_fault section b p ≡ section_fault section c p
    section-same section p h ends =
        first-where (count_fault section b p) (λ e. records-same section.parts (two_at b p) (p + 2) (ends (count-fine section b p e).allowed))
        ∙ rw (whole_same (p + 2) h, two-same p h)
