-- A sheet that is written and read back is itself: of an answer of writing, and then of one of reading. Assumes rows of their length.
use mathlib.Core.Path.{◌≡◌, ap, ◌∙◌}
use Prim.Native.Nat.{ℕ}
use mathlib.Core.List.{List}
use lib.ListN.{length, take}
use Rattle.std.specs.Prelude.{Result, Err}
use Rattle.std.specs.Result.{IsErrAnd}
use Rattle.std.proofs.lemmas.Result.{err_from_is_err_and}
use Rattle.laws.specs.Faults.{fine-both}
use Rattle.records.specs.declared.refusal.Refusal.{Refusal}
use Rattle.sheet.specs.Rule.{Row, Sheet, sheet_bytes, first, sheet_fault, enough, read_as, read_call, ReadOutcome, write_call}
use Rattle.sheet.specs.Answer.{read_leaves, write_leaves}
use Rattle.sheet.specs.RoundTrip.{Shaped}
use Rattle.sheet.specs.declared.reading.Contents.{Contents}
use Rattle.sheet.proofs.RoundTrip.{read-of-written}
use Rattle.sheet.proofs.Told.{SheetWritten, write-fault-of-refused}
use Rattle.round_trip.specs.Rule.{carried, write_and_read}

-- writing left `bytes`
module _ (sheet : Sheet) (lent : List ℕ) (tracks items : List Row) (a : Result ℕ Refusal) (bytes : List ℕ) (e : write_leaves a bytes ≡ write_call sheet lent) where
  pub carry-refused : (refusal : Refusal) → a ≡ Err refusal → (answer : Result Contents Refusal) → IsErrAnd answer (λ o. o ≡ refusal) → carried (read_leaves answer tracks items) bytes ≡ write_and_read sheet lent tracks items
  unfolding write_and_read
  carry-refused refusal told answer gives = let exit = err_from_is_err_and answer gives in rw (exit.1, exit.2, write-fault-of-refused sheet lent a bytes e refusal told, ← e)

  pub carry-read : Shaped sheet → (n : ℕ) → SheetWritten sheet lent bytes n → (left : ReadOutcome)
      → left ≡ read_call (take n bytes) tracks items → carried left bytes ≡ write_and_read sheet lent tracks items
  unfolding write_and_read
  carry-read shaped n ok left r =
      let same : left ≡ read_as (first (enough (length sheet.tracks) (length tracks)) (enough (length sheet.items) (length items))) sheet tracks items =
      r ∙ ap (λ (b : List ℕ). read_call b tracks items) ok.is_bytes ∙ read-of-written sheet tracks items shaped (fine-both (sheet_fault (sheet_bytes sheet)) _ ok.is_fine).0 in
      rw (ok.is_fine, ← e, same)
