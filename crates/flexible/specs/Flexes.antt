-- Step 6 as the code goes about it: the lines, beside each whether it is held inflexible, and the fr by cases on the
-- expansion space. Assumes nothing.
use Rattle.std.specs.Prelude.{ℕ, ◌*◌, ◌/◌, ◌≤◌, max, ◌≡◌, Bool, cond, not, ◌||◌, List, [], ◌∷◌, map, ltb, length}
use Rattle.laws.specs.Lists.{in_turn}
use Rattle.rounds.specs.Rule.{most_tracks, most_dots}
use Rattle.kinds.specs.declared.constraint.Constraint.{Constraint}
use Rattle.kinds.specs.declared.constraint.Constraint.TheVariants.{Definite, MinContent, MaxContent}
use Rattle.spanned.specs.Rule.{most_factor, is_fr}
use Rattle.lines.specs.declared.line.Line.{Line}
use Rattle.lines.specs.declared.measured.Measured.{Measured}
use Rattle.lines.specs.declared.fr.Fr.{Fr}
use Rattle.lines.specs.Rule.{number, bases, search_over, base_fr, bases_fr, item_fr}
use Rattle.lines.specs.Fr.{no_fr, Flex, short}
use Rattle.lines.specs.Fits.{LinesFit}

-- ---- The search

-- a line in the search, held or not
abbrev pub flex_at : Line → Bool → Flex
flex_at l held = record { size = l.base; factor = number l; held = held }

unfoldable pub flexes : List Line → List Bool → List Flex
flexes (l ∷ ls) (h ∷ hs) = flex_at l h ∷ flexes ls hs
flexes (l ∷ ls) [] = []
flexes [] hs = []

-- which are held from the start
abbrev pub not_fr : Line → Bool
not_fr l = not (is_fr l.track)

unfoldable pub held_first : List Line → List Bool
held_first ls = map not_fr ls

-- and which after one more walk
unfoldable pub held_next : Fr → List Line → List Bool → List Bool
held_next fr (l ∷ ls) (h ∷ hs) = (short fr (flex_at l h) || h) ∷ held_next fr ls hs
held_next fr (l ∷ ls) [] = []
held_next fr [] hs = []

-- ---- The fr

-- what a line makes of the largest so far; one that is not fr changes nothing
abbrev pub line_fr : Line → Fr → Fr
line_fr l fr = cond (is_fr l.track) (base_fr l fr) fr

-- over the items of a batch, which are those that cross an fr track
unfoldable pub batch_fr : List Measured → List Line → Fr
batch_fr batch ls = in_turn (item_fr ls) batch (bases_fr ls)

-- where the space is definite
abbrev pub definite_fr : ℕ → List Line → Fr
definite_fr n ls = cond (ltb (bases ls) n) (search_over n ls) no_fr

abbrev pub fr_over : Constraint → List Measured → List Line → Fr
fr_over (Definite n) batch ls = definite_fr n ls
fr_over MinContent batch ls = no_fr
fr_over MaxContent batch ls = batch_fr batch ls

-- the base of a line that has grown with the fr
abbrev pub flexed_base : Fr → Line → ℕ
flexed_base fr l = cond (is_fr l.track) (max l.base (number l * fr.dots / fr.per)) l.base

-- ---- What the code asks for

-- the working store: a mark for each line, on a board that is not too long, and each number within its limit
pub record StoreFits (lines : List Line) (held : List Bool) : Type 0 where
  pub one-length : length held ≡ length lines
  pub few : length lines ≤ most_tracks
  pub fits : LinesFit lines

-- a fraction whose products with a factor fit
pub record FrFits (fr : Fr) : Type 0 where
  pub dots : fr.dots ≤ most_dots
  pub per : 1000 ≤ fr.per

-- and the most that the factors of a board come to
abbrev pub most_per : ℕ
most_per = most_tracks * most_factor

pub record FrBounds (fr : Fr) : Type 0 where
  pub fits : FrFits fr
  pub most : fr.per ≤ most_per

-- the most that a base grows to
abbrev pub most_grown : ℕ
most_grown = 1677721500

abbrev pub FactorFits : Line → Type 0
FactorFits l = number l ≤ most_factor
