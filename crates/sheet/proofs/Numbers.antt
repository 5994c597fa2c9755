-- A sheet's own bytes are refused by 1 to 5 alone: 6 belongs to lent places. Assumes nothing.
use mathlib.Core.Bool.{Bool, true, false, cond}
use Prim.Native.Nat.{ℕ, zero, suc, ◌+◌, ◌≤◌}
use native.Mathlib.Omega.{arith}
use mathlib.Core.List.{List, [], ◌∷◌}
use lib.Dec.{leb, eqb}
use lib.ListN.{length}
use Rattle.laws.specs.Lists.{among}
use Rattle.sheet.specs.Rule.{Part, Row, tagged, mark, pair, Fault, fine, fault, first, unless, tagged_fault, row_at, row_fault, record_size, records_fault, whole_to, two_at, Section, space_section, track_section, item_section, count_fault, section_fault, tracks_from, items_from, fault_from, sheet_end, sheet_fault}

-- a fault's number, where there is one
abbrev pub fault_number : Fault → ℕ
fault_number fine = 0
fault_number (fault number place) = number

first-le : (f g : Fault) (k : ℕ) → fault_number f ≤ k → fault_number g ≤ k → fault_number (first f g) ≤ k
first-le fine g k hf hg = hg
first-le (fault number place) g k hf hg = hf

unless-le : (t : Bool) (number place k : ℕ) → number ≤ k → fault_number (unless t (fault number place)) ≤ k
unless-le true number place k h = omega arith
unless-le false number place k h = h

use-le : (carries bare : Bool) (n p : ℕ) → fault_number (cond carries fine (cond bare (unless (eqb n 0) (fault 5 (p + 1))) (fault 4 p))) ≤ 5
use-le true bare n p = omega arith
use-le false true n p = unless-le (eqb n 0) 5 (p + 1) 5 (omega arith)
use-le false false n p = omega arith

row-le : (parts : List Part) (row : Row) (p : ℕ) → fault_number (row_fault parts row p) ≤ 5
unfolding row_fault tagged_fault
row-le (tagged tags ∷ parts) (tag ∷ n ∷ row) p = first-le (tagged_fault tags tag n p) _ 5 (use-le (among tags.carrying tag) (among tags.bare tag) n p) (row-le parts row (p + 5))
row-le (tagged tags ∷ parts) (tag ∷ []) p = omega arith
row-le (mark listed ∷ parts) (n ∷ row) p = first-le (unless (among listed n) (fault 4 p)) _ 5 (unless-le (among listed n) 4 p 5 (omega arith)) (row-le parts row (p + 1))
row-le (pair ∷ parts) (n ∷ row) p = row-le parts row (p + 4)
row-le (tagged tags ∷ parts) [] p = omega arith
row-le (mark listed ∷ parts) [] p = omega arith
row-le (pair ∷ parts) [] p = omega arith
row-le [] row p = omega arith

whole_le : (bytes : List ℕ) (to : ℕ) → fault_number (whole_to bytes to) ≤ 5
whole_le bytes to = unless-le (leb to (length bytes)) 1 (length bytes) 5 (omega arith)

records-le : (parts : List Part) (bytes : List ℕ) (n p : ℕ) → fault_number (records_fault parts bytes n p) ≤ 5
unfolding records_fault
records-le parts bytes zero p = omega arith
records-le parts bytes (suc n) p =
    first-le (whole_to bytes (p + record_size parts)) _ 5 (whole_le bytes (p + record_size parts))
    (first-le (row_fault parts (row_at parts bytes p) p) _ 5 (row-le parts (row_at parts bytes p) p)
    (records-le parts bytes n (p + record_size parts)))

section-le : (section : Section) (bytes : List ℕ) (p : ℕ) → fault_number (section_fault section bytes p) ≤ 5
section-le section bytes p =
    first-le (count_fault section bytes p) _ 5
    (first-le (whole_to bytes (p + 2)) _ 5 (whole_le bytes (p + 2)) (unless-le (section.allows (two_at bytes p)) 3 p 5 (omega arith)))
    (records-le section.parts bytes (two_at bytes p) (p + 2))

pub fault-from-le : (bytes : List ℕ) (p : ℕ) → fault_number (fault_from bytes p) ≤ 5
unfolding fault_from
fault-from-le bytes p =
    first-le (section_fault space_section bytes p) _ 5 (section-le space_section bytes p)
    (first-le (section_fault track_section bytes (tracks_from p)) _ 5 (section-le track_section bytes (tracks_from p))
    (section-le item_section bytes (items_from bytes p)))

pub sheet-fault-le : (bytes : List ℕ) → fault_number (sheet_fault bytes) ≤ 5
unfolding sheet_fault
sheet-fault-le bytes = first-le (fault_from bytes 0) _ 5 (fault-from-le bytes 0) (unless-le (leb (length bytes) (sheet_end bytes)) 2 (sheet_end bytes) 5 (omega arith))
