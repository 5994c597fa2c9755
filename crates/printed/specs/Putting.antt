-- What a function that puts a piece of text into lent bytes promises. Assumes nothing.
use Rattle.std.specs.Prelude.{◌≡◌, List, ℕ, ◌+◌, ◌≤◌, length}
use Rattle.laws.specs.Put.{put}

-- the piece stands at its place, `next` is the place behind it, and it has no more than `most` bytes
pub record Putting (most at : ℕ) (piece before after : List ℕ) (next : ℕ) : Type 0 where
  pub stands : after ≡ put at piece before
  pub behind : next ≡ at + length piece
  pub few : next ≤ at + most
  pub kept : length after ≡ length before
