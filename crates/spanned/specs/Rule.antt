-- What an item spans, and when it is measured; and the limits of the numbers. This page goes by the kinds that the sizing reads, and it
-- computes. It assumes nothing of the code.
use Rattle.std.specs.Prelude.{ℕ, Bool, true, false, not, ◌&&◌, List, [], ◌∷◌, take, drop, None, Some}
use Rattle.laws.specs.Lists.{some}
use Rattle.kinds.specs.Kinds.{amount_at, Amount}
use Rattle.kinds.specs.declared.track.Minimum.{Minimum}
use Rattle.kinds.specs.declared.track.Minimum.TheVariants as minimum
use Rattle.kinds.specs.declared.track.Maximum.{Maximum}
use Rattle.kinds.specs.declared.track.Maximum.TheVariants as maximum
use Rattle.kinds.specs.declared.track.Track.{Track}
use Rattle.kinds.specs.declared.item.ContributionKind.{ContributionKind}
use Rattle.kinds.specs.declared.item.ContributionKind.TheVariants as kind
use Rattle.kinds.specs.declared.item.Item.{Item}

-- ---- Limits

abbrev pub most_size : ℕ
most_size = 65535

abbrev pub most_factor : ℕ
most_factor = 100000

abbrev pub most_contribution : ℕ
most_contribution = 65535

-- ---- What an item spans

-- the part of a list, one for each track, that an item covers
abbrev pub spanned : {A : Type 0} → Item → List A → List A
spanned i xs = take i.span (drop i.start xs)

abbrev pub is_fixed_minimum : Minimum → Bool
is_fixed_minimum (minimum.Fixed n) = true
is_fixed_minimum minimum.Auto = false
is_fixed_minimum minimum.MinContent = false
is_fixed_minimum minimum.MaxContent = false

abbrev pub is_fixed_maximum : Maximum → Bool
is_fixed_maximum (maximum.Fixed n) = true
is_fixed_maximum maximum.Auto = false
is_fixed_maximum maximum.MinContent = false
is_fixed_maximum maximum.MaxContent = false
is_fixed_maximum (maximum.FitContent n) = false
is_fixed_maximum (maximum.Fr n) = false

abbrev pub is_fr_maximum : Maximum → Bool
is_fr_maximum (maximum.Fixed n) = false
is_fr_maximum maximum.Auto = false
is_fr_maximum maximum.MinContent = false
is_fr_maximum maximum.MaxContent = false
is_fr_maximum (maximum.FitContent n) = false
is_fr_maximum (maximum.Fr n) = true

-- fixed at both ends
abbrev pub is_fixed : Track → Bool
is_fixed t = is_fixed_minimum t.minimum && is_fixed_maximum t.maximum

abbrev pub is_fr : Track → Bool
is_fr t = is_fr_maximum t.maximum

abbrev pub is_unfixed : Track → Bool
is_unfixed t = not (is_fixed t)

-- it spans a track that is not fixed at both ends
abbrev pub is_measured : List Track → Item → Bool
is_measured ts i = some is_unfixed (spanned i ts)

abbrev pub crosses_fr : List Track → Item → Bool
crosses_fr ts i = some is_fr (spanned i ts)

-- ---- Its contributions

-- in the order of its row
abbrev pub contribution_kinds : List ContributionKind
contribution_kinds = kind.Minimum ∷ kind.MinContent ∷ kind.MaxContent ∷ []

abbrev pub is_absent : Amount → Bool
is_absent None = true
is_absent (Some n) = false

abbrev pub lacks_contribution : Item → Bool
lacks_contribution i = some (λ (k : ContributionKind). is_absent (amount_at i k)) contribution_kinds
