-- The items of a batch as a chain: a first item, and beside each item the next one, or a number past the items at the end; and the
-- batches by number, each from its head on.
-- Assumes nothing.
use Rattle.std.specs.Prelude.{◌≡◌, ℕ, zero, suc, ◌+◌, ◌<◌, cond, ltb, length, get_or}
use mathlib.Core.List.{List, [], ◌∷◌, map, flat_map}
use Rattle.kinds.specs.Kinds.{Row, item_of}
use Rattle.lines.specs.declared.measured.Measured.{Measured}
use Rattle.lines.specs.Rule.{complete}
use Rattle.lines.specs.Fits.{MeasuredFit}

-- each next item is a later one
abbrev pub Rising : List ℕ → Type 0
Rising nexts = (i : ℕ) → i < length nexts → i < get_or nexts i 0

-- the items met from i on, in no more than `steps` steps
unfoldable pub chain_from : ℕ → List ℕ → ℕ → List ℕ
chain_from zero nexts i = []
chain_from (suc steps) nexts i = cond (ltb i (length nexts)) (i ∷ chain_from steps nexts (get_or nexts i 0)) []

abbrev pub chain : List ℕ → ℕ → List ℕ
chain nexts i = chain_from (length nexts) nexts i

-- the item in a row, where it is complete
abbrev pub part_at : List Row → ℕ → List Measured
part_at rows i = complete (item_of (get_or rows i []))

-- the batch that a chain names
unfoldable pub chained : List Row → List ℕ → ℕ → List Measured
chained rows nexts i = flat_map (part_at rows) (chain nexts i)

-- a chain rises, and its items fit a board of n tracks
pub record ChainFits (n : ℕ) (items : List Row) (nexts : List ℕ) (first : ℕ) : Type 0 where
  pub long : length nexts ≡ length items
  pub rising : Rising nexts
  pub fit : MeasuredFit n (chained items nexts first)

-- an item at the head of a chain takes part
abbrev pub Whole : List Row → List ℕ → ℕ → Type 0
Whole items nexts first = first < length items → (i : Measured) × (is : List Measured) × (chained items nexts first ≡ i ∷ is)

-- ---- The batches by number, on a board of so many tracks: none for items without part, one for each span, 1 also where there is no track, and
-- the last for items that cross an fr track

abbrev pub fr_batch : ℕ → ℕ
fr_batch tracks = tracks + 2

abbrev pub batches : ℕ → ℕ
batches tracks = tracks + 3

-- `heads` has the first item of each
abbrev pub batch_at : List Row → (heads nexts : List ℕ) → ℕ → List Measured
batch_at items heads nexts k = chained items nexts (get_or heads k 0)

-- the batches in their order
abbrev pub batches_of : List Row → (heads nexts : List ℕ) → List (List Measured)
batches_of items heads nexts = map (chained items nexts) heads

-- every batch but the first fits a board of n tracks
pub record BatchesFit (n : ℕ) (items : List Row) (heads nexts : List ℕ) : Type 0 where
  pub heads-long : length heads ≡ batches n
  pub fits : (k : ℕ) → 0 < k → k < batches n → ChainFits n items nexts (get_or heads k 0)
  pub whole : (k : ℕ) → 0 < k → k < batches n → Whole items nexts (get_or heads k 0)
