-- A message's call, as its code goes. Assumes nothing.
use mathlib.Core.Path.{◌≡◌, ap₂, ◌∙◌}
use mathlib.Core.List.{List}
use Prim.Native.Nat.{ℕ, ◌≤◌, ◌<◌}
use native.Mathlib.Nat.{zero-add}
use lib.ListN.{length}
use borrow.Author.Tests.{le-leb, lt-leb}
use Rattle.laws.specs.Put.{put_front}
use Rattle.printed.specs.Rule.{message_text, no_room, printed, print_outcome, most_name, most_words, most_message, message_call}
use Rattle.printed.specs.Putting.{Putting}

module _ (name words lent : List ℕ) where
  pub long-name : most_name < length name → print_outcome no_room lent ≡ message_call name words lent
  unfolding message_call
  long-name h = rw (lt-leb (length name) most_name h)

  pub many-words : length name ≤ most_name → most_words < length words → print_outcome no_room lent ≡ message_call name words lent
  unfolding message_call
  many-words n h = rw (le-leb (length name) most_name n, lt-leb (length words) most_words h)

  pub little-room : length name ≤ most_name → length words ≤ most_words → length lent < most_message → print_outcome no_room lent ≡ message_call name words lent
  unfolding message_call
  little-room n w h = rw (le-leb (length name) most_name n, le-leb (length words) most_words w, lt-leb most_message (length lent) h)

  pub message-printed : length name ≤ most_name → length words ≤ most_words → most_message ≤ length lent → (after : List ℕ) (n next : ℕ)
      → Putting n 0 (message_text name words) lent after next → print_outcome (printed next) after ≡ message_call name words lent
  unfolding message_call
  message-printed n w h after most next put =
      rw (le-leb (length name) most_name n, le-leb (length words) most_words w, le-leb most_message (length lent) h)
      (ap₂ (λ (k : ℕ) (bs : List ℕ). print_outcome (printed k) bs) (put.behind ∙ zero-add (length (message_text name words))) (put.stands ∙ put_front (message_text name words) lent))
