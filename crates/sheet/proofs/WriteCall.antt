-- What the writer's tests and puts come to, in the words of the call: a refusal, or the sheet's bytes at the front of what was
-- lent. Assumes nothing.
use mathlib.Core.Path.{◌≡◌, sym, ap, ap₂, ◌∙◌}
use Prim.Native.Nat.{ℕ}
use mathlib.Core.List.{List}
use lib.ListN.{length}
use Rattle.std.specs.Prelude.{Result, Ok}
use Rattle.std.specs.Result.{IsErrAnd}
use Rattle.std.proofs.lemmas.Result.{err_from_is_err_and}
use Rattle.laws.specs.Faults.{first-where, fine-both}
use Rattle.records.specs.Answer.{refusal_fault}
use Rattle.records.specs.declared.refusal.Refusal.{Refusal}
use Rattle.rows.specs.Shapes.{width}
use Rattle.sheet.specs.Rule.{Row, space_record, row_fault, Fault, fine, fault, first, enough, Sheet, sheet_bytes, onto, sheet_written, write_refused, write_outcome, write_fault, write_as, write_call}
use Rattle.sheet.specs.Answer.{sheet_of, write_leaves}
use Rattle.sheet.specs.Content.{content_fault, sheet_size, Looked}
use Rattle.sheet_kinds.specs.declared.space.Space.{Space}
use Rattle.sheet.proofs.Content.{fault-of-space, content-fault, content-size}

-- a space that is handed over as a row may have a fault, which comes before all else
pub write-refused-by-space : (sheet : Sheet) (lent : List ℕ) (number place : ℕ) → length sheet.space ≡ width space_record → row_fault space_record sheet.space 2 ≡ fault number place
    → write_outcome (write_refused number place) lent ≡ write_call sheet lent
unfolding write_call
write-refused-by-space sheet lent number place long e = rw (fault-of-space sheet long number place e)

module _ (space : Space) (tracks items : List Row) (lent : List ℕ) (looked : Looked tracks items) where
  -- what the code tests is the call's fault
  tested : write_fault (sheet_of space tracks items) lent ≡ first (content_fault tracks items) (enough (sheet_size (length tracks) (length items)) (length lent))
  tested =
      ap (λ (f : Fault). first f (enough (length (sheet_bytes (sheet_of space tracks items))) (length lent))) (content-fault space tracks items looked)
      ∙ first-where (content_fault tracks items) (λ e. ap (λ (n : ℕ). enough n (length lent)) (content-size space tracks items looked e))

  -- f is what the code found
  module _ {f : Fault} (told : f ≡ first (content_fault tracks items) (enough (sheet_size (length tracks) (length items)) (length lent))) where
    called : write_as f (sheet_bytes (sheet_of space tracks items)) lent ≡ write_call (sheet_of space tracks items) lent
    unfolding write_call
    called = ap (λ (g : Fault). write_as g (sheet_bytes (sheet_of space tracks items)) lent) (told ∙ sym tested)

    pub write-refused : (answer : Result ℕ Refusal) (refusal : Refusal) → f ≡ refusal_fault refusal → IsErrAnd answer (λ o. o ≡ refusal) → write_leaves answer lent ≡ write_call (sheet_of space tracks items) lent
    write-refused answer refusal e told =
        let is = err_from_is_err_and answer told in
        rw (is.1, is.2) (ap (λ (g : Fault). write_as g (sheet_bytes (sheet_of space tracks items)) lent) (sym e) ∙ called)

    module _ (none : f ≡ fine) where
      both-fine : (content_fault tracks items ≡ fine) × (enough (sheet_size (length tracks) (length items)) (length lent) ≡ fine)
      both-fine = fine-both (content_fault tracks items) _ (sym told ∙ none)

      pub write-written : {size : ℕ} {bytes : List ℕ} → size ≡ sheet_size (length tracks) (length items) → bytes ≡ onto (sheet_bytes (sheet_of space tracks items)) lent
          → write_leaves (Ok size) bytes ≡ write_call (sheet_of space tracks items) lent
      write-written e b =
          ap₂ (λ (n : ℕ) (l : List ℕ). write_outcome (sheet_written n) l) (e ∙ sym (content-size space tracks items looked both-fine.0)) b
          ∙ ap (λ (g : Fault). write_as g (sheet_bytes (sheet_of space tracks items)) lent) (sym none)
          ∙ called

-- for the check of `write`
pub ruleset cases = (write-refused, write-written)
