-- What `torrivask_fill` leaves: its answer, and what then stands in everything that was lent to be written. Assumes nothing.
use Rattle.std.specs.Prelude.{ℕ, List}
use Rattle.fill.specs.Rule.{Told, filled, refused, Outcome}

pub record FillLeft : Type 0 where
  pub code : ℕ
  pub gains : List ℕ
  pub leftover : ℕ
  pub rounds : ℕ
  pub place : ℕ

abbrev pub fill_left : ℕ → List ℕ → ℕ → ℕ → ℕ → FillLeft
fill_left code gains leftover rounds place = record { code = code; gains = gains; leftover = leftover; rounds = rounds; place = place }

-- Only a refusal writes the place, and nothing else.
abbrev pub fill_writes : Told → List ℕ → (leftover rounds place : ℕ) → FillLeft
fill_writes (filled left passes) gains leftover rounds place = fill_left 0 gains left passes place
fill_writes (refused number at) gains leftover rounds place = fill_left number gains leftover rounds at

-- what the call left, over what stood there before
abbrev pub fill_face : Outcome → (leftover rounds place : ℕ) → FillLeft
fill_face outcome = fill_writes outcome.told outcome.gains
