-- The store that steps 1 to 4 work in, and the lines that they leave there, as the code goes about it. Assumes nothing.
use Rattle.std.specs.Prelude.{◌≡◌, List, [], map, ℕ, ◌+◌, length, get_or}
use Rattle.laws.specs.Lists.{keep}
use Rattle.kinds.specs.Kinds.{Row, track_of, item_of}
use Rattle.kinds.specs.declared.constraint.Constraint.{Constraint}
use Rattle.lines.specs.declared.line.Line.{Line}
use Rattle.letters.specs.declared.totals.Totals.{Totals}
use Rattle.lines.specs.declared.measured.Measured.{Measured}
use Rattle.lines.specs.Rule.{measured_items, in_one_track, start, singles, missing, content}
use Rattle.lines.specs.Chains.{fr_batch, batches}
use Rattle.letters.specs.Increases.{NoIncrease}
use Rattle.letters.specs.declared.batch.Batch.TheVariants.{Last}
use Rattle.letters.specs.Batches.{batched_in}
use Rattle.spans.specs.Work.{longer_lines}

-- a head for each batch, a next beside each item; beside each track a line, no increase and scratch; and a total more than tracks
pub record Store (tracks items : List Row) (heads nexts : List ℕ) (lines : List Line) (increases gains rests : List ℕ) (sums : List Totals) : Type 0 where
  pub heads-long : length heads ≡ batches (length tracks)
  pub nexts-long : length nexts ≡ length items
  pub lines_long : length lines ≡ length tracks
  pub none : NoIncrease tracks increases
  pub gains-long : length gains ≡ length tracks
  pub rests-long : length rests ≡ length tracks
  pub sums-long : length sums ≡ length tracks + 1

-- steps 1 and 2
abbrev pub prepared_lines : Constraint → (tracks items : List Row) → List Line
prepared_lines c tracks items = singles c (keep (in_one_track (map track_of tracks)) (measured_items (map track_of tracks) (map item_of items))) (start (map track_of tracks))

-- steps 3 and 4, from the batches by number
abbrev pub spread_lines : Constraint → List (List Measured) → List Line → List Line
spread_lines c bs lines = missing (batched_in Last c (get_or bs (fr_batch (length lines)) []) (longer_lines c bs lines))

-- steps 1 to 4
abbrev pub content_lines : Constraint → (tracks items : List Row) → List Line
content_lines c tracks items = content c (map track_of tracks) (measured_items (map track_of tracks) (map item_of items))
