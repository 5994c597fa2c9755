-- A space, tracks and items laid out into lent sizes: the sizes or a refusal. The order of refusals is the build paper's table, from 6 on;
-- the checks, the sizing, and what the sizing reads of a sheet have their own pages. It assumes nothing of the code and it computes.
use Rattle.std.specs.Prelude.{ℕ, List, map, length}
use Rattle.kinds.specs.Kinds.{Row}
use Rattle.kinds.specs.declared.item.Item.{Item}
use Rattle.sheet_kinds.specs.declared.space.Space.{Space}
use Rattle.sheet_kinds.specs.declared.track.SheetTrack.{SheetTrack}
use Rattle.sheet_kinds.specs.Rule.{expansion, resolved}
use Rattle.records.specs.Rule.{Fault, fine, fault, first, enough, onto}
use Rattle.checks.specs.Rule.{record_fault}
use Rattle.lines.specs.Rule.{FreeTold, Board, size}

-- What a board tells: its tracks, the free space and the rounds; or the refusal. And what stands in the lent sizes after it:
-- base and limit of a track each.
pub data BoardTold : Type 0 where
  board : (tracks : ℕ) (free : FreeTold) (rounds : ℕ) → BoardTold
  refused : (number place : ℕ) → BoardTold

pub record BoardOutcome : Type 0 where
  pub told : BoardTold
  pub sizes : List Row

abbrev pub board_outcome : BoardTold → List Row → BoardOutcome
board_outcome told sizes = record { told = told; sizes = sizes }

-- 6, then 7 to 10
abbrev pub layout_fault : Space → List SheetTrack → List Item → List Row → Fault
layout_fault s ts is sizes = first (enough (length ts) (length sizes)) (record_fault s ts is)

-- the sizes, from what the sizing reads of the space and the tracks
abbrev pub layout_sizes : Space → List SheetTrack → List Item → Board
layout_sizes s ts is = size s.constraint (expansion s) s.stretch (map resolved ts) is

-- a board's sizes stand first in what was lent, the rest keeps what it holds
abbrev pub sized_outcome : Board → List Row → BoardOutcome
sized_outcome b sizes = board_outcome (board (length b.sizes) b.free b.rounds) (onto b.sizes sizes)

abbrev pub layout_as : Fault → Space → List SheetTrack → List Item → List Row → BoardOutcome
layout_as fine s ts is sizes = sized_outcome (layout_sizes s ts is) sizes
layout_as (fault number place) s ts is sizes = board_outcome (refused number place) sizes

unfoldable pub layout_call : Space → List SheetTrack → List Item → List Row → BoardOutcome
layout_call s ts is sizes = layout_as (layout_fault s ts is sizes) s ts is sizes
