-- The bytes before a sheet do not matter: behind them it says the same, and its end and the places of its faults move along. Stated
-- over any record and any section, of a place p of the bytes and the same place q behind the front. Assumes nothing.
use mathlib.Core.Path.{◌≡◌, refl, ap, ap₂, ◌∙◌}
use mathlib.Core.Logic.{⊎_elim}
use mathlib.Core.Bool.{Bool, true, false, cond}
use Prim.Native.Nat.{ℕ, zero, suc, ◌+◌, ◌*◌, ◌≤◌, ◌<◌}
use native.Mathlib.Omega.{arith}
use mathlib.Core.List.{List, [], ◌∷◌, ◌++◌}
use lib.Dec.{eqb}
use lib.ListN.{length, length-append}
use lib.Seq.{get_or-append-add}
use borrow.Author.Tests.{le-leb, lt-leb}
use Rattle.laws.specs.Tests.{lt-or-ge}
use Rattle.laws.specs.Lists.{among}
use Rattle.sheet.specs.Rule.{byte_at, two_at, four_at, Tags, Part, tagged, mark, pair, Row, record_size, space_record, row_at, rows_at, tagged_fault, row_fault, Fault, fine, fault, first, unless, whole_to, records_fault, Section, space_section, track_section, item_section, count_fault, section_fault, section_end, tracks_from, items_from, end_from, sheet_from, fault_from, over_fault}

-- a fault, so many places on
abbrev pub moved_by : ℕ → Fault → Fault
moved_by k fine = fine
moved_by k (fault number place) = fault number (place + k)

module _ (k : ℕ) where
  pub first-moved : (f g f' g' : Fault) → f' ≡ moved_by k f → g' ≡ moved_by k g → first f' g' ≡ moved_by k (first f g)
  first-moved fine g f' g' e d = rw e d
  first-moved (fault number place) g f' g' e d = rw e

  unless-moved : (t : Bool) (number p q : ℕ) → q ≡ p + k → unless t (fault number q) ≡ moved_by k (unless t (fault number p))
  unless-moved true number p q e = refl
  unless-moved false number p q e = ap (fault number) e

  tagged-moved : (tags : Tags) (tag n p q : ℕ) → q ≡ p + k → tagged_fault tags tag n q ≡ moved_by k (tagged_fault tags tag n p)
  unfolding tagged_fault
  tagged-moved tags tag n p q e = go (among tags.carrying tag) (among tags.bare tag)
    where
      go : (c b : Bool) → cond c fine (cond b (unless (eqb n 0) (fault 5 (q + 1))) (fault 4 q)) ≡ moved_by k (cond c fine (cond b (unless (eqb n 0) (fault 5 (p + 1))) (fault 4 p)))
      go true b = refl
      go false true = unless-moved (eqb n 0) 5 (p + 1) (q + 1) (omega arith)
      go false false = ap (fault 4) e

  row-fault-moved : (parts : List Part) (row : Row) (p q : ℕ) → q ≡ p + k → row_fault parts row q ≡ moved_by k (row_fault parts row p)
  unfolding row_fault
  row-fault-moved [] row p q e = refl
  row-fault-moved (tagged tags ∷ parts) [] p q e = refl
  row-fault-moved (tagged tags ∷ parts) (tag ∷ []) p q e = refl
  row-fault-moved (tagged tags ∷ parts) (tag ∷ n ∷ row) p q e = first-moved (tagged_fault tags tag n p) _ _ _ (tagged-moved tags tag n p q e) (row-fault-moved parts row (p + 5) (q + 5) (omega arith))
  row-fault-moved (mark listed ∷ parts) [] p q e = refl
  row-fault-moved (mark listed ∷ parts) (n ∷ row) p q e = first-moved (unless (among listed n) (fault 4 p)) _ _ _ (unless-moved (among listed n) 4 p q e) (row-fault-moved parts row (p + 1) (q + 1) (omega arith))
  row-fault-moved (pair ∷ parts) [] p q e = refl
  row-fault-moved (pair ∷ parts) (n ∷ row) p q e = row-fault-moved parts row (p + 4) (q + 4) (omega arith)

module _ (front bytes : List ℕ) where
  -- ---- what is read there

  byte-moved : (p q : ℕ) → q ≡ p + length front → byte_at (front ++ bytes) q ≡ byte_at bytes p
  byte-moved p q e =
      let place : q ≡ length front + p = omega arith in
      rw place (get_or-append-add front bytes p 0)

  two-moved : (p q : ℕ) → q ≡ p + length front → two_at (front ++ bytes) q ≡ two_at bytes p
  two-moved p q e = ap₂ (λ (x y : ℕ). x + 256 * y) (byte-moved p q e) (byte-moved (p + 1) (q + 1) (omega arith))

  four-moved : (p q : ℕ) → q ≡ p + length front → four_at (front ++ bytes) q ≡ four_at bytes p
  four-moved p q e = ap₂ (λ (x y : ℕ). x + 65536 * y) (two-moved p q e) (two-moved (p + 2) (q + 2) (omega arith))

  row_moved : (parts : List Part) (p q : ℕ) → q ≡ p + length front → row_at parts (front ++ bytes) q ≡ row_at parts bytes p
  unfolding row_at
  row_moved [] p q e = refl
  row_moved (tagged tags ∷ parts) p q e = rw (byte-moved p q e, four-moved (p + 1) (q + 1) (omega arith), row_moved parts (p + 5) (q + 5) (omega arith))
  row_moved (mark listed ∷ parts) p q e = rw (byte-moved p q e, row_moved parts (p + 1) (q + 1) (omega arith))
  row_moved (pair ∷ parts) p q e = rw (four-moved p q e, row_moved parts (p + 4) (q + 4) (omega arith))

  rows-moved : (parts : List Part) (n p q : ℕ) → q ≡ p + length front → rows_at parts (front ++ bytes) n q ≡ rows_at parts bytes n p
  unfolding rows_at
  rows-moved parts zero p q e = refl
  rows-moved parts (suc n) p q e = ap₂ ◌∷◌ (row_moved parts p q e) (rows-moved parts n (p + record_size parts) (q + record_size parts) (omega arith))

  pub section-rows-moved : (section : Section) (p q : ℕ) → q ≡ p + length front
      → rows_at section.parts (front ++ bytes) (two_at (front ++ bytes) q) (q + 2) ≡ rows_at section.parts bytes (two_at bytes p) (p + 2)
  section-rows-moved section p q e =
      ap (λ (n : ℕ). rows_at section.parts (front ++ bytes) n (q + 2)) (two-moved p q e)
      ∙ rows-moved section.parts (two_at bytes p) (p + 2) (q + 2) (omega arith)

  -- ---- what is wrong there

  whole-moved : (p q : ℕ) → q ≡ p + length front → whole_to (front ++ bytes) q ≡ moved_by (length front) (whole_to bytes p)
  whole-moved p q e =
      let long = length-append front bytes in
      ⊎_elim
      (λ (h : length bytes < p). rw (lt-leb p (length bytes) h, lt-leb q (length (front ++ bytes)) (omega arith)) (ap (fault 1) (omega arith)))
      (λ (h : p ≤ length bytes). rw (le-leb p (length bytes) h, le-leb q (length (front ++ bytes)) (omega arith)))
      (lt-or-ge (length bytes) p)

  records-moved : (parts : List Part) (n p q : ℕ) → q ≡ p + length front → records_fault parts (front ++ bytes) n q ≡ moved_by (length front) (records_fault parts bytes n p)
  unfolding records_fault
  records-moved parts zero p q e = refl
  records-moved parts (suc n) p q e =
      let k = length front in
      let size = record_size parts in
      first-moved k (whole_to bytes (p + size)) _ _ _ (whole-moved (p + size) (q + size) (omega arith))
      (first-moved k (row_fault parts (row_at parts bytes p) p) _ _ _
      (ap (λ (row : Row). row_fault parts row q) (row_moved parts p q e) ∙ row-fault-moved k parts (row_at parts bytes p) p q e)
      (records-moved parts n (p + size) (q + size) (omega arith)))

  pub section-moved : (section : Section) (p q : ℕ) → q ≡ p + length front → section_fault section (front ++ bytes) q ≡ moved_by (length front) (section_fault section bytes p)
  section-moved section p q e =
      let k = length front in
      let count = two-moved p q e in
      first-moved k (count_fault section bytes p) _ _ _
      (first-moved k (whole_to bytes (p + 2)) _ _ _ (whole-moved (p + 2) (q + 2) (omega arith))
      (ap (λ (n : ℕ). unless (section.allows n) (fault 3 q)) count ∙ unless-moved k (section.allows (two_at bytes p)) 3 p q e))
      (ap (λ (n : ℕ). records_fault section.parts (front ++ bytes) n (q + 2)) count ∙ records-moved section.parts (two_at bytes p) (p + 2) (q + 2) (omega arith))

  pub section-end-moved : (section : Section) (p q : ℕ) → q ≡ p + length front → section_end section (front ++ bytes) q ≡ section_end section bytes p + length front
  section-end-moved section p q e = rw (two-moved p q e) (omega arith)

  pub over-moved : (p q : ℕ) → q ≡ p + length front → over_fault (front ++ bytes) q ≡ moved_by (length front) (over_fault bytes p)
  over-moved p q e =
      let long = length-append front bytes in
      ⊎_elim
      (λ (h : p < length bytes). rw (lt-leb (length bytes) p h, lt-leb (length (front ++ bytes)) q (omega arith)) (ap (fault 2) e))
      (λ (h : length bytes ≤ p). rw (le-leb (length bytes) p h, le-leb (length (front ++ bytes)) q (omega arith)))
      (lt-or-ge p (length bytes))

  -- ---- the sheet there

  items-moved : items_from (front ++ bytes) (length front) ≡ items_from bytes 0 + length front
  items-moved = section-end-moved track_section (tracks_from 0) (tracks_from (length front)) (omega arith)

  pub end_moved : end_from (front ++ bytes) (length front) ≡ end_from bytes 0 + length front
  end_moved = section-end-moved item_section (items_from bytes 0) (items_from (front ++ bytes) (length front)) items-moved

  pub fault-moved : fault_from (front ++ bytes) (length front) ≡ moved_by (length front) (fault_from bytes 0)
  unfolding fault_from
  fault-moved =
      let k = length front in
      first-moved k (section_fault space_section bytes 0) _ _ _ (section-moved space_section 0 k (omega arith))
      (first-moved k (section_fault track_section bytes (tracks_from 0)) _ _ _ (section-moved track_section (tracks_from 0) (tracks_from k) (omega arith))
      (section-moved item_section (items_from bytes 0) (items_from (front ++ bytes) k) items-moved))

  pub sheet-moved : sheet_from (front ++ bytes) (length front) ≡ sheet_from bytes 0
  unfolding sheet_from
  sheet-moved =
      let k = length front in
      rw (
        row_moved space_record 2 (k + 2) (omega arith),
        section-rows-moved track_section (tracks_from 0) (tracks_from k) (omega arith),
        section-rows-moved item_section (items_from bytes 0) (items_from (front ++ bytes) k) items-moved,
      )
