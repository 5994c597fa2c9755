-- A loop over rows whose records stand one after another, with i as the next row and p as its record's place: one that looks
-- for the first fault, and one that puts each row's bytes. Stated once, over any record. Assumes nothing.
use mathlib.Core.Path.{◌≡◌, refl, sym, ap, ◌∙◌}
use Prim.Native.Nat.{ℕ, ◌+◌, ◌≤◌, ◌<◌}
use mathlib.Core.List.{List, [], ◌∷◌, ◌++◌}
use lib.ListN.{length, get_or, drop, drop_of_length-le}
use Rattle.laws.specs.Put.{put, put-none, put_then}
use Rattle.laws.specs.Walk.{next}
use Rattle.std.specs.Prelude.{Result, map}
use Rattle.std.specs.Result.{IsErrAnd}
use Rattle.std.proofs.lemmas.List.{get_or-map, length-map}
use Rattle.laws.specs.Faults.{fine-both, fault-not-fine}
use Rattle.records.specs.Answer.{number_of, place_of, refusal_fault, fault_of}
use Rattle.records.specs.declared.refusal.Refusal.{Refusal}
use Rattle.records.proofs.Looks.{found-first, next-of-fine}
use Rattle.rows.specs.Shapes.{width}
use Rattle.rows.proofs.Stands.{length-row_bytes}
use Rattle.sheet.specs.Rule.{Part, Row, record_size, row_bytes, rows_bytes, Fault, fine, row_fault}
use Rattle.sheet.specs.Content.{rows_fault, LookedAt}

-- ---- the first fault

-- what is still to look at has the fault that all the rows have
pub record Searched (n : ℕ) (parts : List Part) (rows : List Row) (from i p : ℕ) : Type 0 where
  pub same : rows_fault parts (drop i rows) p ≡ rows_fault parts rows from
  pub long : LookedAt n parts (drop i rows) p → LookedAt n parts rows from

module _ (n : ℕ) (parts : List Part) (rows : List Row) (from : ℕ) where
  -- what is told of all the rows
  abbrev pub Told : Fault → Type 0
  Told f = (f ≡ rows_fault parts rows from) × LookedAt n parts rows from

  module _ (i p : ℕ) (walk : Searched n parts rows from i p) where
    pub searched-end : length rows ≤ i → Told fine
    unfolding rows_fault LookedAt
    searched-end h =
        let e : drop i rows ≡ [] = drop_of_length-le rows h in
        (rw e at walk.same, walk.long (rw e tt))

    -- the row at i, and the refusal that is found in it or none
    module _ (h : i < length rows) (row : Row) (at : get_or rows i [] ≡ row) (wide : length row ≡ n) where
      behind : drop i rows ≡ row ∷ drop (i + 1) rows
      behind = rw (← at) (next rows i [] h)

      -- this row and those behind it
      same_here : rows_fault parts (row ∷ drop (i + 1) rows) p ≡ rows_fault parts rows from
      same_here = rw behind at walk.same

      long-here : LookedAt n parts (row ∷ drop (i + 1) rows) p → LookedAt n parts rows from
      long-here = rw behind at walk.long

      pub searched-next : fine ≡ row_fault parts row p → Searched n parts rows from (i + 1) (p + record_size parts)
      unfolding rows_fault LookedAt
      searched-next e = record { same = next-of-fine e refl ∙ same_here; long = λ l. long-here (wide, λ z. l) }

      pub searched-found : (r : Result Unit Refusal) (refusal : Refusal) → refusal_fault refusal ≡ row_fault parts row p → IsErrAnd r (λ o. o ≡ refusal) → Told (fault_of r)
      unfolding rows_fault LookedAt
      searched-found r refusal e told = (
        found-first r refusal e told (rows_fault parts (drop (i + 1) rows) (p + record_size parts)) ∙ same_here,
        long-here (wide, λ z. absurd (fault-not-fine (number_of refusal) (place_of refusal) (e ∙ z))),
      )

-- ---- the bytes

-- what is still to put has no fault, and puts all the rows
pub record Putting (parts : List Part) (rows : List Row) (bytes₀ : List ℕ) (from i p : ℕ) (bytes : List ℕ) : Type 0 where
  pub unfaulted : rows_fault parts (drop i rows) p ≡ fine
  pub puts : put p (rows_bytes parts (drop i rows)) bytes ≡ put from (rows_bytes parts rows) bytes₀

module _ (parts : List Part) (rows : List Row) (bytes₀ : List ℕ) (from : ℕ) where
  pub putting-none : rows_fault parts rows from ≡ fine → Putting parts rows bytes₀ from 0 from bytes₀
  putting-none e = record { unfaulted = e; puts = refl }

  module _ (i p : ℕ) (bytes : List ℕ) (walk : Putting parts rows bytes₀ from i p bytes) where
    pub putting-end : length rows ≤ i → bytes ≡ put from (rows_bytes parts rows) bytes₀
    unfolding rows_bytes
    putting-end h = sym (put-none p bytes) ∙ (rw (drop_of_length-le rows h) at walk.puts)

    module _ (h : i < length rows) (row : Row) (at : get_or rows i [] ≡ row) where
      this_row : drop i rows ≡ row ∷ drop (i + 1) rows
      this_row = rw (← at) (next rows i [] h)

      both-fine : (row_fault parts row p ≡ fine) × (rows_fault parts (drop (i + 1) rows) (p + record_size parts) ≡ fine)
      unfolding rows_fault
      both-fine = fine-both (row_fault parts row p) _ (rw this_row at walk.unfaulted)

      pub putting-fine : row_fault parts row p ≡ fine
      putting-fine = both-fine.0

      -- this row's bytes are put
      pub putting-next : (new : List ℕ) → p ≤ length bytes → length row ≡ width parts → new ≡ put p (row_bytes parts row) bytes → Putting parts rows bytes₀ from (i + 1) (p + record_size parts) new
      unfolding rows_bytes
      putting-next new r l e =
          let rest = rows_bytes parts (drop (i + 1) rows) in
          let all : put p (row_bytes parts row ++ rest) bytes ≡ put from (rows_bytes parts rows) bytes₀ = rw this_row at walk.puts in
          record { unfaulted = both-fine.1; puts = put_then p (p + record_size parts) (row_bytes parts row) rest bytes r (ap (p +◌) (sym (length-row_bytes parts row l))) e refl ∙ all }

-- ---- rows of a type, as their numbers

-- the rows are as many, and the numbers are those of the row at i
pub within-rows : {R : Type 0} (numbers : R → Row) (rows : List R) (i : ℕ) → i < length rows → i < length (map numbers rows)
within-rows numbers rows i h = rw length-map h

pub past-rows : {R : Type 0} (numbers : R → Row) (rows : List R) (i : ℕ) → length rows ≤ i → length (map numbers rows) ≤ i
past-rows numbers rows i h = rw length-map h

pub row-in : {R : Type 0} (numbers : R → Row) (rows : List R) (i : ℕ) (row : R) → i < length rows → row ≡ get_or rows i row → get_or (map numbers rows) i [] ≡ numbers row
row-in numbers rows i row h is = get_or-map numbers rows i row [] h ∙ ap numbers (sym is)
