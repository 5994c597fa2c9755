-- What a word of the command line is, where `--` has not come before it. Assumes nothing.
use Rattle.std.specs.Prelude.{◌≡◌, List, ℕ, get_or}
use Rattle.printed.specs.Rule.{word}
use Rattle.reader.specs.declared.words.Word.{Word}
use Rattle.reader.specs.declared.words.Word.TheVariants.{Help, Past, Input, Option, Name}

-- `--help`, `--` and `-` are themselves; any other word that begins with `-` is an option, and one that does not is a name
abbrev pub Says : Word → List ℕ → Type 0
Says Help w = w ≡ word "--help"
Says Past w = w ≡ word "--"
Says Input w = w ≡ word "-"
Says Option w = (get_or w 0 0 ≡ 45) × (w ≡ word "--help" → ⊥) × (w ≡ word "--" → ⊥) × (w ≡ word "-" → ⊥)
Says Name w = get_or w 0 0 ≡ 45 → ⊥
