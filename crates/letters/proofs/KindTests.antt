-- The code's tests of a track's kinds are the rule's lists of tags, kind by kind. Assumes nothing.
use mathlib.Core.Path.{◌≡◌, refl}
use mathlib.Core.Bool.{true, false}
use mathlib.Core.Logic.{◌⊎◌, inl, inr}
use mathlib.Core.List.{[], ◌∷◌}
use Rattle.laws.specs.Lists.{among}
use Rattle.kinds.specs.Kinds.{minimum_tag, maximum_tag}
use Rattle.kinds.specs.declared.track.Minimum.{Minimum}
use Rattle.kinds.specs.declared.track.Minimum.TheVariants as minimum
use Rattle.kinds.specs.declared.track.Maximum.{Maximum}
use Rattle.kinds.specs.declared.track.Maximum.TheVariants as maximum
use Rattle.lines.specs.declared.line.Line.{Line}
use Rattle.lines.specs.Rule.{max_in}
use Rattle.letters.specs.declared.letter.Letter.{Letter}
use Rattle.letters.specs.declared.letter.Letter.TheVariants.{A, B, C, D}
use Rattle.letters.specs.Letters.{letter_of, by_minimum, by_maximum}

pub minimum-234 : (m : Minimum) → by_minimum m true true true ≡ among (2 ∷ 3 ∷ 4 ∷ []) (minimum_tag m)
unfolding among
minimum-234 (minimum.Fixed n) = refl
minimum-234 minimum.Auto = refl
minimum-234 minimum.MinContent = refl
minimum-234 minimum.MaxContent = refl

pub minimum-34 : (m : Minimum) → by_minimum m false true true ≡ among (3 ∷ 4 ∷ []) (minimum_tag m)
unfolding among
minimum-34 (minimum.Fixed n) = refl
minimum-34 minimum.Auto = refl
minimum-34 minimum.MinContent = refl
minimum-34 minimum.MaxContent = refl

pub minimum-24 : (m : Minimum) → by_minimum m true false true ≡ among (2 ∷ 4 ∷ []) (minimum_tag m)
unfolding among
minimum-24 (minimum.Fixed n) = refl
minimum-24 minimum.Auto = refl
minimum-24 minimum.MinContent = refl
minimum-24 minimum.MaxContent = refl

pub minimum-4 : (m : Minimum) → by_minimum m false false true ≡ among (4 ∷ []) (minimum_tag m)
unfolding among
minimum-4 (minimum.Fixed n) = refl
minimum-4 minimum.Auto = refl
minimum-4 minimum.MinContent = refl
minimum-4 minimum.MaxContent = refl

pub maximum-2345 : (m : Maximum) → by_maximum m true true true ≡ among (2 ∷ 3 ∷ 4 ∷ 5 ∷ []) (maximum_tag m)
unfolding among
maximum-2345 (maximum.Fixed n) = refl
maximum-2345 maximum.Auto = refl
maximum-2345 maximum.MinContent = refl
maximum-2345 maximum.MaxContent = refl
maximum-2345 (maximum.FitContent n) = refl
maximum-2345 (maximum.Fr n) = refl

pub maximum-245 : (m : Maximum) → by_maximum m true false true ≡ among (2 ∷ 4 ∷ 5 ∷ []) (maximum_tag m)
unfolding among
maximum-245 (maximum.Fixed n) = refl
maximum-245 maximum.Auto = refl
maximum-245 maximum.MinContent = refl
maximum-245 maximum.MaxContent = refl
maximum-245 (maximum.FitContent n) = refl
maximum-245 (maximum.Fr n) = refl

pub maximum-234 : (m : Maximum) → by_maximum m true true false ≡ among (2 ∷ 3 ∷ 4 ∷ []) (maximum_tag m)
unfolding among
maximum-234 (maximum.Fixed n) = refl
maximum-234 maximum.Auto = refl
maximum-234 maximum.MinContent = refl
maximum-234 maximum.MaxContent = refl
maximum-234 (maximum.FitContent n) = refl
maximum-234 (maximum.Fr n) = refl

pub maximum-24 : (m : Maximum) → by_maximum m true false false ≡ among (2 ∷ 4 ∷ []) (maximum_tag m)
unfolding among
maximum-24 (maximum.Fixed n) = refl
maximum-24 maximum.Auto = refl
maximum-24 maximum.MinContent = refl
maximum-24 maximum.MaxContent = refl
maximum-24 (maximum.FitContent n) = refl
maximum-24 (maximum.Fr n) = refl

pub not-auto : (m : Maximum) → (m ≡ maximum.Auto → ⊥) → false ≡ among (2 ∷ []) (maximum_tag m)
unfolding among
not-auto (maximum.Fixed n) h = refl
not-auto maximum.Auto h = absurd (h refl)
not-auto maximum.MinContent h = refl
not-auto maximum.MaxContent h = refl
not-auto (maximum.FitContent n) h = refl
not-auto (maximum.Fr n) h = refl

-- ---- letters that go together

pub takes-234 : (k : Letter) (l : Line) → (k ≡ A) ⊎ (k ≡ B) → max_in (2 ∷ 3 ∷ 4 ∷ []) l ≡ (letter_of k).takes l
takes-234 k l (inl e) = rw e refl
takes-234 k l (inr e) = rw e refl

pub takes-24 : (k : Letter) (l : Line) → (k ≡ C) ⊎ (k ≡ D) → max_in (2 ∷ 4 ∷ []) l ≡ (letter_of k).takes l
takes-24 k l (inl e) = rw e refl
takes-24 k l (inr e) = rw e refl
