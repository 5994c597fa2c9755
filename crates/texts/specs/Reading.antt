-- What the contracts of the functions that read cite. Assumes nothing.
use Rattle.std.specs.Prelude.{ℕ, ◌≤◌, ◌≡◌, length, Result, Ok, Err}
use Rattle.std.specs.Borrow.{MutBor}
use Rattle.texts.specs.declared.text.Text.{Text}
use Rattle.texts.specs.declared.fault.Stop.{Stop}

-- the place is not further back than where the text stands, and within the text
abbrev pub IsAhead : Text → ℕ → Type 0
IsAhead text at = (text.at ≤ at) × (at ≤ length text.bytes.now)

-- the place of a fault, where there is one
abbrev pub StopsAhead : {A : Type 0} → Text → Result A Stop → Type 0
StopsAhead text (Ok x) = Unit {0}
StopsAhead text (Err stop) = IsAhead text stop.at

-- The text is the same, and stands not further back. That it stands within its bytes is a fact of every text.
abbrev pub MovesOn : Text → Text → Type 0
MovesOn old new = (new.bytes ≡ old.bytes) × (old.at ≤ new.at)

-- reading moves on, and stops at a fault further on, if at all
abbrev pub Onward : {A : Type 0} → Text → Result A Stop → Text → Type 0
Onward old result new = MovesOn old new × StopsAhead old result

-- each call that reads an entry or a case moves on
abbrev pub AllOnward : {A : Type 0} → (MutBor Text → Result A Stop → MutBor Text → Type 0) → Type 0
AllOnward {A} calls = (old : MutBor Text) (result : Result A Stop) (new : MutBor Text) → calls old result new → Onward old.now result new.now
