-- A turn of the loop that applies increases, said of lists. Assumes nothing.
use mathlib.Core.Path.{◌≡◌, refl}
use mathlib.Core.List.{List, [], ◌∷◌, zip_with}
use Prim.Native.Nat.{ℕ, ◌+◌, ◌≤◌, ◌<◌}
use lib.ListN.{length, get_or, drop}
use Rattle.laws.specs.Walk.{next}
use Rattle.lines.specs.declared.line.Line.{Line}
use Rattle.letters.specs.Letters.{most}

pub grown-step : (grown : Line → ℕ → Line) (l v : Line) (increases : List ℕ) (i : ℕ) (ls : List Line) → i < length increases → v ≡ grown l (get_or increases i 0)
    → zip_with grown (l ∷ ls) (drop i increases) ≡ v ∷ zip_with grown ls (drop (i + 1) increases)
unfolding zip_with
grown-step grown l v increases i ls h e = rw (next increases i 0 h, e) refl

pub grown-nil : (grown : Line → ℕ → Line) (increases : List ℕ) → zip_with grown [] increases ≡ []
unfolding zip_with
grown-nil grown increases = refl

-- what fits before the walk fits when it is met
pub present-same : (present : Line → ℕ) (line line₀ : Line) (increase increase₀ : ℕ) → line ≡ line₀ → increase ≡ increase₀
    → present line₀ + increase₀ ≤ most → present line + increase ≤ most
present-same present line line₀ increase increase₀ r n h = rw (r, n) h
