-- The call that reads: what a sheet that is not refused says, and that the counts which it tells are allowed. Assumes nothing.
use mathlib.Core.Path.{◌≡◌, refl, sym, ap, subst, ◌∙◌}
use Prim.Native.Nat.{ℕ, ◌+◌, ◌≤◌}
use mathlib.Core.List.{List}
use lib.Dec.{leb}
use lib.ListN.{length}
use borrow.Author.Tests.{leb-true}
use Rattle.std.specs.Prelude.{Result, Ok}
use Rattle.laws.specs.Faults.{fine-both, fine-test}
use Rattle.rounds.specs.Rule.{most_tracks}
use Rattle.records.specs.declared.refusal.Refusal.{Refusal}
use Rattle.rows.proofs.Stands.{length-rows_at}
use Rattle.sheet.specs.Rule.{Row, space_record, track_record, item_record, row_at, rows_at, two_at, Fault, fine, fault, most_items, tracks_from, items_from, sheet_from, tracks_at, items_at, sheet_at, sheet_fault, enough, onto, ReadTold, sheet_read, read_refused, ReadOutcome, read_fault, read_sheet, read_as, read_call}
use Rattle.sheet_kinds.specs.Kinds.{space_row, space_of}
use Rattle.sheet.specs.declared.reading.Contents.{Contents}
use Rattle.sheet.specs.Answer.{read_told, read_leaves, Loadable}
use Rattle.sheet_kinds.specs.declared.space.Space.{Space}
use Rattle.sheet.proofs.Accepted.{accepted-from, fine-over, space-row-of-accepted}

-- ---- reading

module _ (bytes : List ℕ) (tracks items : List Row) where
  module _ (e : read_fault bytes tracks items ≡ fine) where
    -- a call that is not refused
    pub readable : Loadable bytes 0 tracks items
    readable =
        let whole = fine-both (sheet_fault bytes) _ e in
        let few = fine-both (enough (two_at bytes tracks_at) (length tracks)) _ whole.1 in
        record {
          unfaulted = (fine-over bytes whole.0).0;
          tracks_fit = leb-true _ _ (fine-test (leb (two_at bytes tracks_at) (length tracks)) 6 0 few.0);
          items_fit = leb-true _ _ (fine-test (leb (two_at bytes (items_at bytes)) (length items)) 6 0 few.1);
        }

-- the rows that were read from a place, and what is told of them
module _ (bytes : List ℕ) (p : ℕ) (tracks items : List Row) (ok : Loadable bytes p tracks items) where
  pub load-done : (space : Space) (n m q place : ℕ) (ts is : List Row) → q ≡ tracks_from p → n ≡ two_at bytes q → place ≡ items_from bytes p → m ≡ two_at bytes place
      → ts ≡ onto (rows_at track_record bytes n (q + 2)) tracks → is ≡ onto (rows_at item_record bytes m (place + 2)) items
      → space ≡ space_of (row_at space_record bytes (p + 2)) → read_leaves (Ok (record { space = space; tracks = n; items = m })) ts is ≡ read_sheet (sheet_from bytes p) tracks items
  unfolding sheet_from
  load-done space n m q place ts is eq en ep em et ei es =
      let row : space_row space ≡ row_at space_record bytes (p + 2) = ap space_row es ∙ space-row-of-accepted bytes p ok.unfaulted in
      let en' : n ≡ two_at bytes (tracks_from p) = en ∙ ap (two_at bytes) eq in
      let em' : m ≡ two_at bytes (items_from bytes p) = em ∙ ap (two_at bytes) ep in
      rw (row, et, ei, em', ep, en', eq, length-rows_at track_record bytes (two_at bytes (tracks_from p)) (tracks_from p + 2), length-rows_at item_record bytes (two_at bytes (items_from bytes p)) (items_from bytes p + 2))

-- ---- the counts that are told are allowed

abbrev pub CountsFew : ReadTold → Type 0
CountsFew (sheet_read space tracks items) = (tracks ≤ most_tracks) × (items ≤ most_items)
CountsFew (read_refused number place) = Unit {0}

module _ (bytes : List ℕ) (tracks items : List Row) where
  told-few : (f : Fault) → read_fault bytes tracks items ≡ f → CountsFew (read_as f (sheet_at bytes) tracks items).told
  unfolding sheet_from
  told-few fine e =
      let sheet = accepted-from bytes 0 (readable bytes tracks items e).unfaulted in
      (rw (length-rows_at track_record bytes (two_at bytes tracks_at) (tracks_at + 2)) sheet.few_tracks, rw (length-rows_at item_record bytes (two_at bytes (items_at bytes)) (items_at bytes + 2)) sheet.few_items)
  told-few (fault number place) e = tt

  call-few : CountsFew (read_call bytes tracks items).told
  unfolding read_call
  call-few = told-few (read_fault bytes tracks items) refl

  pub counts-few : (a : Result Contents Refusal) (ts is : List Row) (contents : Contents) → read_leaves a ts is ≡ read_call bytes tracks items → a ≡ Ok contents
      → (contents.tracks ≤ most_tracks) × (contents.items ≤ most_items)
  counts-few a ts is contents e told = subst CountsFew (sym (ap (λ (o : ReadOutcome). o.told) e) ∙ ap read_told told) call-few
