-- What is asked of bytes and of rows where they give each other back. Assumes nothing.
use Rattle.std.specs.Prelude.{◌≡◌, List, [], ◌∷◌, ℕ, ◌+◌, ◌<◌, length, get_or}
use Rattle.records.specs.Rule.{Row, Part, tagged, mark, pair}

-- how many numbers a row of such a record has
abbrev pub part_width : Part → ℕ
part_width (tagged tags) = 2
part_width (mark listed) = 1
part_width pair = 1

unfoldable pub width : List Part → ℕ
width [] = 0
width (part ∷ parts) = part_width part + width parts

-- each number is a byte
abbrev pub AreBytes : List ℕ → Type 0
AreBytes bytes = (i : ℕ) → get_or bytes i 0 < 256

-- each row has so many numbers
abbrev pub EachLong : ℕ → List Row → Type 0
EachLong n rows = (i : ℕ) → i < length rows → length (get_or rows i []) ≡ n
