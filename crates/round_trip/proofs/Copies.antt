-- A sheet that is read and written back is its own bytes: of an answer of reading, and then of one of writing. Assumes bytes below 256.
use mathlib.Core.Path.{◌≡◌, ap, ◌∙◌}
use Prim.Native.Nat.{ℕ}
use mathlib.Core.List.{List}
use lib.ListN.{length, take}
use Rattle.std.specs.Prelude.{Result, Err}
use Rattle.std.specs.Result.{IsErrAnd}
use Rattle.std.proofs.lemmas.Result.{err_from_is_err_and}
use Rattle.laws.specs.Faults.{fine-both}
use Rattle.sheet_kinds.specs.declared.space.Space.{Space}
use Rattle.records.specs.declared.refusal.Refusal.{Refusal}
use Rattle.rows.specs.Shapes.{AreBytes}
use Rattle.sheet.specs.Rule.{Row, Sheet, sheet_fault, enough, read_call, write_as, write_call, WriteOutcome}
use Rattle.sheet.specs.Answer.{read_leaves, write_leaves, sheet_of}
use Rattle.sheet.specs.declared.reading.Contents.{Contents}
use Rattle.sheet.proofs.RoundTrip.{write-of-read}
use Rattle.sheet.proofs.Told.{SheetRead, read-fault-of-refused}
use Rattle.round_trip.specs.Rule.{copied, read_and_write}

-- reading left `ts` and `is`
module _ (bytes : List ℕ) (tracks items : List Row) (lent : List ℕ) (a : Result Contents Refusal) (ts is : List Row) (e : read_leaves a ts is ≡ read_call bytes tracks items) where
  pub copy-refused : (refusal : Refusal) → a ≡ Err refusal → (answer : Result ℕ Refusal) → IsErrAnd answer (λ o. o ≡ refusal) → copied (write_leaves answer lent) ts is ≡ read_and_write bytes tracks items lent
  unfolding read_and_write
  copy-refused refusal told answer gives = let exit = err_from_is_err_and answer gives in rw (exit.1, exit.2, read-fault-of-refused bytes tracks items a ts is e refusal told, ← e)

  pub copy_written : AreBytes bytes → (space : Space) (n m : ℕ) → SheetRead bytes tracks items ts is space n m → (left : WriteOutcome)
      → left ≡ write_call (sheet_of space (take n ts) (take m is)) lent → copied left ts is ≡ read_and_write bytes tracks items lent
  unfolding read_and_write
  copy_written small space n m ok left w =
      let same : left ≡ write_as (enough (length bytes) (length lent)) bytes lent =
      w ∙ ap (λ (sheet : Sheet). write_call sheet lent) ok.is_sheet ∙ write-of-read bytes lent small (fine-both (sheet_fault bytes) _ ok.is_fine).0 in
      rw (ok.is_fine, ← e, same)
