-- Writing where the space is a row. A row of a space without fault is that of its `Space`, so writing it is the core's own call; one with
-- a fault is refused by it, as the rule has it. Assumes nothing.
use Prim.Native.Nat.{ℕ}
use mathlib.Core.Path.{◌≡◌, sym, ap, ◌∙◌}
use mathlib.Core.List.{List}
use lib.ListN.{length}
use Rattle.sheet_kinds.specs.Kinds.{space_row, space_of}
use Rattle.sheet_kinds.specs.declared.space.Space.{Space}
use Rattle.records.specs.Answer.{number_of, place_of, refusal_fault}
use Rattle.records.specs.declared.refusal.Refusal.{Refusal}
use Rattle.rows.proofs.KindRows.{row-of-space}
use Rattle.sheet.specs.Rule.{Row, space_record, row_fault, fine, write_call}
use Rattle.sheet.specs.Answer.{write_leaves, sheet_of}
use Rattle.std.specs.Prelude.{Result}
use Rattle.std.specs.Result.{IsErrAnd}
use Rattle.std.proofs.lemmas.Result.{err_from_is_err_and}
use Rattle.rows.specs.Shapes.{width}
use Rattle.sheet.proofs.WriteCall.{write-refused-by-space}
use Rattle.torrivask.specs.Sheets.{row_sheet}

module _ (row : Row) (tracks items : List Row) (lent : List ℕ) (long : length row ≡ width space_record) where
  pub space-refused : (refusal : Refusal) → refusal_fault refusal ≡ row_fault space_record row 2 → (answer : Result ℕ Refusal) → IsErrAnd answer (λ o. o ≡ refusal)
      → write_leaves answer lent ≡ write_call (row_sheet row tracks items) lent
  space-refused refusal found answer told =
      let is = err_from_is_err_and answer told in
      rw (is.1, is.2) (write-refused-by-space (row_sheet row tracks items) lent (number_of refusal) (place_of refusal) long (sym found))

  pub same-call : fine ≡ row_fault space_record row 2 → (space : Space) → space ≡ space_of row → (answer : Result ℕ Refusal) (bytes : List ℕ)
      → write_leaves answer bytes ≡ write_call (sheet_of space tracks items) lent → write_leaves answer bytes ≡ write_call (row_sheet row tracks items) lent
  same-call none space space-is answer bytes is =
      is ∙ ap (λ (r : Row). write_call (row_sheet r tracks items) lent) (ap space_row space-is ∙ row-of-space row 2 long (sym none))
