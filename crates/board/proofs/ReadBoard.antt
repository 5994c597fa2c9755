-- Reading with rows for every record: 6 is never met, and the first rows read are the sheet's. Assumes nothing.
use mathlib.Core.Path.{◌≡◌, refl, sym, ap, ◌∙◌}
use mathlib.Core.List.{List, map}
use Prim.Native.Nat.{ℕ, ◌≤◌}
use native.Mathlib.Omega.{arith}
use lib.ListN.{length, take}
use borrow.Author.Tests.{le-leb}
use Rattle.laws.specs.Faults.{first_fine, first-where}
use Rattle.rounds.specs.Rule.{most_tracks}
use Rattle.kinds.specs.Kinds.{Row, item_of}
use Rattle.sheet_kinds.specs.Kinds.{sheet_track_of}
use Rattle.sheet_kinds.specs.declared.space.Space.{Space}
use Rattle.sheet.specs.Rule.{fine, most_items, two_at, tracks_at, items_at, Sheet, sheet_fault, read_fault, read_call}
use Rattle.records.specs.Answer.{refusal_fault}
use Rattle.sheet.specs.Answer.{read_leaves, enough_rows, sheet_of}
use Rattle.records.specs.declared.refusal.Refusal.{Refusal}
use Rattle.records.specs.declared.refusal.Refusal.TheVariants as sheet
use Rattle.sheet.specs.declared.reading.Contents.{Contents}
use Rattle.std.specs.Prelude.{Result, Ok, Err}
use Rattle.rows.proofs.KindRows.{space-of-row}
use Rattle.sheet.proofs.Accepted.{accepted}
use Rattle.sheet.proofs.ReadCall.{counts-few}
use Rattle.sheet.proofs.Told.{SheetRead, read-fault-of-refused, sheet-of-read}
use Rattle.layout.specs.Answer.{layout_told, layout_leaves}
use Rattle.layout.specs.Rule.{layout_call}
use Rattle.layout.specs.declared.Board.{Board}
use Rattle.layout.specs.declared.refusal.Refusal as layout
use Rattle.board.specs.Rule.{BoardTold, board_outcome, sheet_layout, board_call}
use Rattle.board.specs.Answer.{board_told, board_leaves, own, own_answer}
use Rattle.board.specs.declared.refusal.Refusal as own
use Rattle.board.specs.declared.refusal.Refusal.TheVariants as refusals
use Rattle.sheet.proofs.Numbers.{fault_number, sheet-fault-le}

-- ---- refusals

own-of-le : (refusal : Refusal) → fault_number (refusal_fault refusal) ≤ 5 → own (refusals.Sheet refusal) ≡ refusals.Sheet refusal
own-of-le (sheet.Short place) h = refl
own-of-le (sheet.BytesOver place) h = refl
own-of-le (sheet.Count place) h = refl
own-of-le (sheet.Tag place) h = refl
own-of-le (sheet.StrayNumber place) h = refl
own-of-le sheet.LentTooShort h = absurd (omega arith)

-- ---- rows for every record

module _ (bytes : List ℕ) (tracks items : List Row) where
  -- where a sheet without fault has rows for its records, reading refuses what the sheet is refused for
  read-fault : (sheet_fault bytes ≡ fine → (two_at bytes tracks_at ≤ length tracks) × (two_at bytes (items_at bytes) ≤ length items))
      → read_fault bytes tracks items ≡ sheet_fault bytes
  read-fault rows = first-where (sheet_fault bytes) enough-rows ∙ first_fine (sheet_fault bytes)
    where
      enough-rows : sheet_fault bytes ≡ fine → enough_rows bytes (length tracks) (length items) ≡ fine
      enough-rows e = rw (le-leb (two_at bytes tracks_at) (length tracks) (rows e).0, le-leb (two_at bytes (items_at bytes)) (length items) (rows e).1)

  -- no sheet announces more
  pub large-rows : length tracks ≡ most_tracks → length items ≡ most_items → read_fault bytes tracks items ≡ sheet_fault bytes
  large-rows lt li = read-fault (λ e. let ok = accepted bytes e in (rw lt ok.from.few_tracks, rw li ok.from.few_items))

-- ---- the call

-- rows are lent before, and `ts` and `is` stand there after
module _ (bytes : List ℕ) (tracks items : List Row) (enough : read_fault bytes tracks items ≡ sheet_fault bytes) (ts is : List Row) where
  fault-of-refused : (a : Result Contents Refusal) (refusal : Refusal) → a ≡ Err refusal → read_leaves a ts is ≡ read_call bytes tracks items → sheet_fault bytes ≡ refusal_fault refusal
  fault-of-refused a refusal is-refused e = sym enough ∙ read-fault-of-refused bytes tracks items a ts is e refusal is-refused

  -- 1 to 5
  pub sheet-refused : (a : Result Contents Refusal) (refusal : Refusal) (sizes : List Row) → a ≡ Err refusal → read_leaves a ts is ≡ read_call bytes tracks items
      → board_leaves (Err (refusals.Sheet refusal)) sizes ≡ board_call bytes sizes
  unfolding board_call
  sheet-refused a refusal sizes is-refused e = rw (fault-of-refused a refusal is-refused e)

  -- never 6
  pub sheet-refused-own : (a : Result Contents Refusal) (refusal : Refusal) → a ≡ Err refusal → read_leaves a ts is ≡ read_call bytes tracks items
      → own_answer (Err (refusals.Sheet refusal)) ≡ Err (refusals.Sheet refusal)
  sheet-refused-own a refusal is-refused e = ap Err (own-of-le refusal (rw (fault-of-refused a refusal is-refused e) at (sheet-fault-le bytes)))

  -- a sheet was read
  pub record BoardRead (space : Space) (n m : ℕ) : Type 0 where
    pub rows : SheetRead bytes tracks items ts is space n m
    pub few_tracks : n ≤ most_tracks

  pub board-read : (a : Result Contents Refusal) (contents : Contents) → a ≡ Ok contents → read_leaves a ts is ≡ read_call bytes tracks items
      → BoardRead contents.space contents.tracks contents.items
  board-read a contents is-sheet e =
      let rows = sheet-of-read bytes tracks items a ts is e contents is-sheet in
      let few = counts-few bytes tracks items a ts is contents e is-sheet in
      record { rows = rows; few_tracks = few.0 }

  -- and laid out
  pub board-of-sheet : (space : Space) (n m : ℕ) → BoardRead space n m → (sizes : List Row) (laid : Result Board layout.Refusal) (after : List Row)
      → layout_leaves laid after ≡ layout_call space (map sheet_track_of (take n ts)) (map item_of (take m is)) sizes
      → (a : Result Board own.Refusal) → board_told a ≡ layout_told laid → board_leaves a after ≡ board_call bytes sizes
  unfolding board_call
  board-of-sheet space n m ok sizes laid after l a t =
      let f : sheet_fault bytes ≡ fine = sym enough ∙ ok.rows.is_fine in
      let same : layout_call space (map sheet_track_of (take n ts)) (map item_of (take m is)) sizes ≡ sheet_layout (sheet_of space (take n ts) (take m is)) sizes = rw (space-of-row space) in
      rw f (ap (λ (told : BoardTold). board_outcome told after) t ∙ l ∙ same ∙ ap (λ (sheet : Sheet). sheet_layout sheet sizes) ok.rows.is_sheet)
