-- What of an error's text is its reason. Assumes nothing.
use Rattle.std.specs.Prelude.{ℕ, List, ◌≡◌, ◌++◌, ◌≢◌, ◌⊎◌, codes}

-- what std writes between the words of an error and its number
abbrev pub number_mark : List ℕ
number_mark = codes " (os error "

-- no number is told in the text
abbrev pub TellsNoNumber : List ℕ → Type 0
TellsNoNumber text = (before after : List ℕ) → text ≢ before ++ (number_mark ++ after)

-- `words` is all of what was said, or what stands before a number
abbrev pub IsBeforeNumber : List ℕ → List ℕ → Type 0
IsBeforeNumber said words = (said ≡ words) ⊎ ((after : List ℕ) × (said ≡ words ++ (number_mark ++ after)))
