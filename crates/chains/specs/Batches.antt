-- The batch of an item, by number: 0 for one that takes no part, its span, and a last one for items that cross an fr track; and what the
-- chains say when all items are gathered. Assumes nothing.
use Rattle.std.specs.Prelude.{◌≡◌, ℕ, ◌≤◌, ◌<◌, Bool, cond, not, ◌&&◌, List, [], map, eqb, length, get_or}
use Rattle.laws.specs.Lists.{All, keep}
use Rattle.rounds.specs.Rule.{most_tracks}
use Rattle.kinds.specs.Kinds.{Row, item_of}
use Rattle.kinds.specs.declared.track.Track.{Track}
use Rattle.kinds.specs.declared.item.Item.{Item}
use Rattle.spanned.specs.Rule.{is_measured, crosses_fr, lacks_contribution}
use Rattle.spanned.specs.Sound.{ItemFits}
use Rattle.lines.specs.Chains.{Rising, chain, fr_batch, batches}

unfoldable pub batch_of : List Track → Item → ℕ
batch_of ts i = cond (is_measured ts i && not (lacks_contribution i)) (cond (crosses_fr ts i) (fr_batch (length ts)) i.span) 0

abbrev pub in_batch : List Track → ℕ → Item → Bool
in_batch ts k i = eqb (batch_of ts i) k

-- the items that a chain names
unfoldable pub chain_items : List Row → List ℕ → ℕ → List Item
chain_items rows nexts i = map (λ (j : ℕ). item_of (get_or rows j [])) (chain nexts i)

-- each batch is chained from its head on, in the items' order
pub record Gathered (ts : List Track) (rows : List Row) (heads nexts : List ℕ) : Type 0 where
  pub rising : Rising nexts
  pub long : length nexts ≡ length rows
  pub batch : (k : ℕ) → k < length heads → chain_items rows nexts (get_or heads k 0) ≡ keep (in_batch ts k) (map item_of rows)

-- what gathering asks: a head for each batch, a next beside each item, and items on tracks that are there
pub record Gatherable (tracks items : List Row) (heads nexts : List ℕ) : Type 0 where
  pub few : length tracks ≤ most_tracks
  pub heads-long : length heads ≡ batches (length tracks)
  pub nexts-long : length nexts ≡ length items
  pub items-fit : All (ItemFits (length tracks)) (map item_of items)
