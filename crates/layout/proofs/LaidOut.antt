-- A layout, case by case as the code goes: too few sizes lent, a record at fault, the sizes. Nothing is asked of these but how many
-- they are. Assumes nothing.
use mathlib.Core.Path.{◌≡◌, sym, ap, subst, ◌∙◌}
use mathlib.Core.List.{List, ◌++◌, map}
use Prim.Native.Nat.{◌≤◌, ◌<◌}
use lib.ListN.{length, drop, length-map}
use borrow.Author.Tests.{lt-leb, le-leb}
use Rattle.rounds.specs.Rule.{most_tracks}
use Rattle.kinds.specs.Kinds.{Row, item_of}
use Rattle.kinds.specs.declared.track.Track.{Track}
use Rattle.kinds.specs.declared.constraint.Constraint.{Constraint}
use Rattle.sheet_kinds.specs.Kinds.{sheet_track_of}
use Rattle.sheet_kinds.specs.Rule.{expansion}
use Rattle.sheet_kinds.specs.declared.space.Space.{Space}
use Rattle.sheet_kinds.proofs.Resolved.{rows-resolved}
use Rattle.records.specs.Rule.{fine}
use Rattle.spanned.specs.Sound.{Sound}
use Rattle.checks.specs.Rule.{record_fault}
use Rattle.checks.specs.Answer as checks
use Rattle.checks.specs.declared.refusal.Refusal as check
use Rattle.checks.proofs.Sound.{space-of-fine, sound-of-fine}
use Rattle.lines.specs.Rule.{Board, size}
use Rattle.sizing.specs.Size.{Sizable, board_of, size_rows}
use Rattle.sizing.specs.declared.Sized.{Sized}
use Rattle.layout.specs.Rule.{BoardOutcome, layout_sizes, sized_outcome, layout_call}
use Rattle.layout.specs.Answer.{layout_leaves}
use Rattle.layout.specs.declared.refusal.Refusal.TheVariants.{LentTooShort, Record}
use Rattle.layout.specs.declared.Board as told
use Rattle.std.specs.Prelude.{Ok, Err}
use Rattle.layout.proofs.Expansion.{expansion-fits}

module _ (space : Space) (tracks items sizes : List Row) where
  -- what is to come of it
  abbrev pub laid_out : BoardOutcome
  laid_out = layout_call space (map sheet_track_of tracks) (map item_of items) sizes

  pub too-few-lent : length sizes < length tracks → layout_leaves (Err LentTooShort) sizes ≡ laid_out
  unfolding layout_call
  too-few-lent h = rw (length-map tracks sheet_track_of, lt-leb (length tracks) (length sizes) h)

  module _ (h : length tracks ≤ length sizes) where
    pub record-refused : (refusal : check.Refusal) → checks.refusal_fault refusal ≡ record_fault space (map sheet_track_of tracks) (map item_of items)
        → layout_leaves (Err (Record refusal)) sizes ≡ laid_out
    unfolding layout_call
    record-refused refusal e = rw (length-map tracks sheet_track_of, le-leb (length tracks) (length sizes) h, ← e)

    module _ (e : record_fault space (map sheet_track_of tracks) (map item_of items) ≡ fine) where
      -- the rows say the tracks that the sizing reads
      sizes-of-rows : size_rows space.constraint (expansion space) space.stretch tracks items ≡ layout_sizes space (map sheet_track_of tracks) (map item_of items)
      sizes-of-rows = ap (λ (ts : List Track). size space.constraint (expansion space) space.stretch ts (map item_of items)) (sym (rows-resolved tracks))

      -- what is told of so many tracks
      abbrev board_told : Sized → told.Board
      board_told done = record { tracks = length tracks; free = done.free; rounds = done.rounds }

      -- the sizes `now` stand where the first lent ones were
      pub sized : (done : Sized) (expansion' : Constraint) (now : List Row) → expansion' ≡ expansion space → length now ≡ length tracks
          → board_of done now ≡ size_rows space.constraint expansion' space.stretch tracks items
          → layout_leaves (Ok (board_told done)) (now ++ drop (length tracks) sizes) ≡ laid_out
      unfolding layout_call
      sized done expansion' now x l b =
          let told : layout_leaves (Ok (board_told done)) (now ++ drop (length tracks) sizes) ≡ sized_outcome (board_of done now) sizes = rw (← l) in
          let same = b ∙ ap (λ (k : Constraint). size_rows space.constraint k space.stretch tracks items) x ∙ sizes-of-rows in
          rw (length-map tracks sheet_track_of, le-leb (length tracks) (length sizes) h, e) (told ∙ ap (λ (board : Board). sized_outcome board sizes) same)

  -- what the sizing asks for
  pub sizable : (expansion' : Constraint) → expansion' ≡ expansion space → length tracks ≤ most_tracks → record_fault space (map sheet_track_of tracks) (map item_of items) ≡ fine
      → Sizable space.constraint expansion' tracks items
  sizable expansion' x few e =
      let fits = space-of-fine space (map sheet_track_of tracks) (map item_of items) e in
      record {
        few = few;
        constraint-fits = fits.0;
        expansion-fits = rw x (expansion-fits space fits);
        sound = subst (λ (ts : List Track). Sound ts (map item_of items)) (rows-resolved tracks) (sound-of-fine space (map sheet_track_of tracks) (map item_of items) e);
      }
