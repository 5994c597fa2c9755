-- The call, as its code goes: the board is sized in sizes of its own, and its text put at the front of the lent bytes. Assumes nothing.
use mathlib.Core.Path.{◌≡◌, refl, ap, ap₂, subst, ◌∙◌}
use mathlib.Core.List.{List}
use Prim.Native.Nat.{ℕ, ◌≤◌, ◌<◌}
use native.Mathlib.Nat.{zero-add}
use lib.ListN.{length}
use borrow.Author.Tests.{lt-ltb, le-ltb}
use Rattle.laws.specs.Put.{put_front}
use Rattle.rounds.specs.Rule.{most_tracks}
use Rattle.kinds.specs.Kinds.{Row}
use Rattle.board.specs.Rule.{board_call}
use Rattle.board.specs.Answer.{board_told, board_leaves}
use Rattle.std.specs.Prelude.{Result, Ok, Err}
use Rattle.layout.specs.declared.Board.{Board}
use Rattle.board.specs.declared.refusal.Refusal.{Refusal}
use Rattle.board.proofs.Tracks.{tracks-few}
use Rattle.printed.specs.Rule.{answer_text, outcome_text, own_sizes, sheet_text, no_room, printed, print_outcome, most_text, print_call}
use Rattle.printed.specs.Answer.{TracksWithin}
use Rattle.printed.specs.Putting.{Putting}

pub call-no-room : (bytes lent : List ℕ) → length lent < most_text → print_outcome no_room lent ≡ print_call bytes lent
unfolding print_call
call-no-room bytes lent h = rw (lt-ltb (length lent) most_text h)

module _ (bytes : List ℕ) (a : Result Board Refusal) (left : List Row) (kept : board_leaves a left ≡ board_call bytes own_sizes) where
  -- the tracks of a board have sizes
  pub tracks-within : length left ≡ most_tracks → TracksWithin (board_told a) left
  tracks-within n = go a refl
    where
      go : (b : Result Board Refusal) → a ≡ b → TracksWithin (board_told b) left
      go (Ok b) e = rw n (tracks-few bytes own_sizes a left b kept e)
      go (Err refusal) e = tt

  text-is : answer_text (board_told a) left ≡ sheet_text bytes
  text-is = ap outcome_text kept

  pub call-printed : (lent after : List ℕ) (n next : ℕ) → most_text ≤ length lent → Putting n 0 (answer_text (board_told a) left) lent after next
      → print_outcome (printed next) after ≡ print_call bytes lent
  unfolding print_call
  call-printed lent after n next h put =
      let p : Putting n 0 (sheet_text bytes) lent after next = subst (λ (text : List ℕ). Putting n 0 text lent after next) text-is put in
      rw (le-ltb (length lent) most_text h)
      (ap₂ (λ (k : ℕ) (bs : List ℕ). print_outcome (printed k) bs) (p.behind ∙ zero-add (length (sheet_text bytes))) (p.stands ∙ put_front (sheet_text bytes) lent))
