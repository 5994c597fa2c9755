-- A board tells 256 tracks at most: as many as the sheet has. Assumes nothing.
use mathlib.Core.Path.{◌≡◌, refl, sym, ap, subst, ◌∙◌}
use mathlib.Core.List.{List, map}
use Prim.Native.Nat.{ℕ, ◌+◌, ◌≤◌}
use lib.ListN.{length, length-map}
use Rattle.rounds.specs.Rule.{most_tracks}
use Rattle.kinds.specs.Kinds.{Row, item_of}
use Rattle.kinds.specs.declared.item.Item.{Item}
use Rattle.sheet_kinds.specs.Kinds.{space_of, sheet_track_of}
use Rattle.sheet_kinds.specs.Rule.{expansion, resolved}
use Rattle.sheet_kinds.specs.declared.space.Space.{Space}
use Rattle.sheet_kinds.specs.declared.track.SheetTrack.{SheetTrack}
use Rattle.rows.proofs.Stands.{length-rows_at}
use Rattle.sheet.specs.Rule.{Fault, fine, fault, track_record, two_at, tracks_at, sheet_from, sheet_at, sheet_fault}
use Rattle.sheet.proofs.Accepted.{accepted}
use Rattle.sizing.proofs.Counted.{length-size}
use Rattle.std.specs.Prelude.{Result, Ok}
use Rattle.layout.specs.Rule.{layout_fault, layout_as, layout_call}
use Rattle.board.specs.Rule.{BoardTold, board, refused, BoardOutcome, board_as, board_call}
use Rattle.board.specs.Answer.{board_told, board_leaves}
use Rattle.layout.specs.declared.Board.{Board}
use Rattle.board.specs.declared.refusal.Refusal.{Refusal}

abbrev pub TracksFew : BoardTold → Type 0
TracksFew (board tracks free rounds) = tracks ≤ most_tracks
TracksFew (refused number place) = Unit {0}

-- a layout tells as many tracks as it was handed
module _ (s : Space) (ts : List SheetTrack) (is : List Item) (sizes : List Row) (few : length ts ≤ most_tracks) where
  layout-as-few : (f : Fault) → TracksFew (layout_as f s ts is sizes).told
  layout-as-few fine = rw (length-size s.constraint (expansion s) s.stretch (map resolved ts) is, length-map ts resolved) few
  layout-as-few (fault number place) = tt

  layout-few : TracksFew (layout_call s ts is sizes).told
  unfolding layout_call
  layout-few = layout-as-few (layout_fault s ts is sizes)

module _ (bytes : List ℕ) (sizes : List Row) where
  sheet-few : sheet_fault bytes ≡ fine → length (map sheet_track_of (sheet_at bytes).tracks) ≤ most_tracks
  unfolding sheet_from
  sheet-few e = rw (length-map (sheet_at bytes).tracks sheet_track_of, length-rows_at track_record bytes (two_at bytes tracks_at) (tracks_at + 2)) (accepted bytes e).from.few_tracks

  told-few : (f : Fault) → sheet_fault bytes ≡ f → TracksFew (board_as f (sheet_at bytes) sizes).told
  told-few fine e = layout-few (space_of (sheet_at bytes).space) (map sheet_track_of (sheet_at bytes).tracks) (map item_of (sheet_at bytes).items) sizes (sheet-few e)
  told-few (fault number place) e = tt

  call-few : TracksFew (board_call bytes sizes).told
  unfolding board_call
  call-few = told-few (sheet_fault bytes) refl

  -- so does an answer that keeps the promise
  pub tracks-few : (a : Result Board Refusal) (left : List Row) (b : Board)
      → board_leaves a left ≡ board_call bytes sizes → a ≡ Ok b → b.tracks ≤ most_tracks
  tracks-few a left b e is =
      subst TracksFew (sym (ap (λ (o : BoardOutcome). o.told) e) ∙ ap board_told is) call-few
