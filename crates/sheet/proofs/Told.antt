-- What an answer that keeps a call's promise says: the fault for which it refuses, or the sheet that was read or written. Assumes nothing.
use mathlib.Core.Path.{◌≡◌, refl, sym, ap, ◌∙◌}
use Prim.Native.Nat.{ℕ, ◌+◌, ◌≤◌}
use native.Mathlib.Omega.{arith}
use mathlib.Core.List.{List}
use lib.ListN.{length, take, drop, length-append}
use lib.Seq.{take_at}
use Rattle.std.specs.Prelude.{Result, Ok, Err}
use Rattle.sheet_kinds.specs.Kinds.{space_row}
use Rattle.sheet_kinds.specs.declared.space.Space.{Space}
use Rattle.records.specs.Answer.{refusal_fault, number_of, place_of}
use Rattle.records.specs.declared.refusal.Refusal.{Refusal}
use Rattle.sheet.specs.Rule.{Row, Fault, fine, fault, Sheet, sheet_at, sheet_bytes, onto, sheet_read, ReadOutcome, read_fault, read_as, read_call, sheet_written, WriteOutcome, write_fault, write_as, write_call}
use Rattle.sheet.specs.declared.reading.Contents.{Contents}
use Rattle.sheet.specs.Answer.{read_told, read_leaves, sheet_of, write_told, write_leaves}
use Rattle.sheet.proofs.RoundTrip.{read-refused-iff-fault, write-refused-iff-fault}

-- the first places, after what is new was put there
take-onto : {A : Type 0} (new lent left : List A) (n : ℕ) → n ≡ length new → left ≡ onto new lent → (n ≤ length left) × (take n left ≡ new)
take-onto new lent left n en el =
    let whole : length left ≡ length new + length (drop (length new) lent) = ap length el ∙ length-append new (drop (length new) lent) in
    (omega arith, rw (el, take_at new (drop (length new) lent) n (sym en)))

-- ---- reading

-- a sheet was read: its rows are the first of those that are left
pub record SheetRead (bytes : List ℕ) (tracks items ts is : List Row) (space : Space) (n m : ℕ) : Type 0 where
  pub is_fine : read_fault bytes tracks items ≡ fine
  pub track_rows : n ≤ length ts
  pub item_rows : m ≤ length is
  pub is_sheet : sheet_of space (take n ts) (take m is) ≡ sheet_at bytes

module _ (bytes : List ℕ) (tracks items : List Row) (a : Result Contents Refusal) (ts is : List Row) (e : read_leaves a ts is ≡ read_call bytes tracks items) where
  pub read-fault-of-refused : (refusal : Refusal) → a ≡ Err refusal → read_fault bytes tracks items ≡ refusal_fault refusal
  read-fault-of-refused refusal told =
      (read-refused-iff-fault bytes tracks items (number_of refusal) (place_of refusal)).0
      (sym (ap (λ (o : ReadOutcome). o.told) e) ∙ ap read_told told)

  pub sheet-of-read : (contents : Contents) → a ≡ Ok contents → SheetRead bytes tracks items ts is contents.space contents.tracks contents.items
  unfolding read_call
  sheet-of-read contents told = go (read_fault bytes tracks items) refl
    where
      go : (f : Fault) → read_fault bytes tracks items ≡ f → SheetRead bytes tracks items ts is contents.space contents.tracks contents.items
      go fine f =
          let left : read_leaves (Ok contents) ts is ≡ read_as fine (sheet_at bytes) tracks items = rw (told, f) at e in
          let says : sheet_read (space_row contents.space) contents.tracks contents.items ≡ sheet_read (sheet_at bytes).space (length (sheet_at bytes).tracks) (length (sheet_at bytes).items) = ap (λ (o : ReadOutcome). o.told) left in
          let t = take-onto (sheet_at bytes).tracks tracks ts contents.tracks (cc) (ap (λ (o : ReadOutcome). o.tracks) left) in
          let i = take-onto (sheet_at bytes).items items is contents.items (cc) (ap (λ (o : ReadOutcome). o.items) left) in
          let s : space_row contents.space ≡ (sheet_at bytes).space = cc in
          record { is_fine = f; track_rows = t.0; item_rows = i.0; is_sheet = rw (s, t.1, i.1) }
      go (fault number place) f =
          let left : read_leaves (Ok contents) ts is ≡ read_as (fault number place) (sheet_at bytes) tracks items = rw (told, f) at e in
          let says = ap (λ (o : ReadOutcome). o.told) left in
          let z : ◌≡◌ {A = ℕ} 0 1 = cc in
          absurd (omega arith)

-- ---- writing

-- a sheet was written: its bytes are the first of those that are left
pub record SheetWritten (sheet : Sheet) (lent bytes : List ℕ) (n : ℕ) : Type 0 where
  pub is_fine : write_fault sheet lent ≡ fine
  pub within : n ≤ length bytes
  pub is_bytes : take n bytes ≡ sheet_bytes sheet

module _ (sheet : Sheet) (lent : List ℕ) (a : Result ℕ Refusal) (bytes : List ℕ) (e : write_leaves a bytes ≡ write_call sheet lent) where
  pub write-fault-of-refused : (refusal : Refusal) → a ≡ Err refusal → write_fault sheet lent ≡ refusal_fault refusal
  write-fault-of-refused refusal told =
      (write-refused-iff-fault sheet lent (number_of refusal) (place_of refusal)).0
      (sym (ap (λ (o : WriteOutcome). o.told) e) ∙ ap write_told told)

  pub bytes-of-written : (n : ℕ) → a ≡ Ok n → SheetWritten sheet lent bytes n
  unfolding write_call
  bytes-of-written n told = go (write_fault sheet lent) refl
    where
      go : (f : Fault) → write_fault sheet lent ≡ f → SheetWritten sheet lent bytes n
      go fine f =
          let left : write_leaves (Ok n) bytes ≡ write_as fine (sheet_bytes sheet) lent = rw (told, f) at e in
          let says : sheet_written n ≡ sheet_written (length (sheet_bytes sheet)) = ap (λ (o : WriteOutcome). o.told) left in
          let b = take-onto (sheet_bytes sheet) lent bytes n (cc) (ap (λ (o : WriteOutcome). o.bytes) left) in
          record { is_fine = f; within = b.0; is_bytes = b.1 }
      go (fault number place) f =
          let left : write_leaves (Ok n) bytes ≡ write_as (fault number place) (sheet_bytes sheet) lent = rw (told, f) at e in
          let says = ap (λ (o : WriteOutcome). o.told) left in
          let z : ◌≡◌ {A = ℕ} 0 1 = cc in
          absurd (omega arith)
