-- The track record as a row, and what the flushes make of it: the Rust's float steps in the Rust's order. Assumes nothing.
use Rattle.std.specs.Prelude.{Bool, false, cond, List, [], ◌∷◌, map, get_or, Float}
use Rattle.std.specs.Float.Ieee as Ieee
use Rattle.std.specs.Float.{nan, binary32}
use Rattle.float_laws.specs.Numbers.{zero32, infinity}
use Rattle.float_laws.specs.Sum.{sum_of}
use Rattle.float_track.specs.declared.track.Track.{Track}

-- A row's numbers in the record's order.
abbrev pub track_of : List Float → Bool → Track
track_of row mark = record {
  base_size = get_or row 0 nan;
  growth_limit = get_or row 1 nan;
  base_size_planned_increase = get_or row 2 nan;
  growth_limit_planned_increase = get_or row 3 nan;
  item_incurred_increase = get_or row 4 nan;
  infinitely_growable = mark;
}

abbrev pub row_of : Track → List Float
row_of t =
    t.base_size
    ∷ t.growth_limit
    ∷ t.base_size_planned_increase
    ∷ t.growth_limit_planned_increase
    ∷ t.item_incurred_increase
    ∷ []

-- the track with another base size and incurred increase
abbrev pub with_sizes : Track → Float → Float → Track
with_sizes t base incurred = record {
  base_size = base;
  growth_limit = t.growth_limit;
  base_size_planned_increase = t.base_size_planned_increase;
  growth_limit_planned_increase = t.growth_limit_planned_increase;
  item_incurred_increase = incurred;
  infinitely_growable = t.infinitely_growable;
}

-- ---- The flushes

abbrev pub flush_base : Track → Track
flush_base t = record {
  base_size = Ieee.add binary32 t.base_size t.base_size_planned_increase;
  growth_limit = t.growth_limit;
  base_size_planned_increase = zero32;
  growth_limit_planned_increase = t.growth_limit_planned_increase;
  item_incurred_increase = t.item_incurred_increase;
  infinitely_growable = t.infinitely_growable;
}

-- An infinite limit starts anew from the base size.
abbrev pub raised_limit : Track → Float
raised_limit t =
    cond (Ieee.eq t.growth_limit infinity)
    (Ieee.add binary32 t.base_size t.growth_limit_planned_increase)
    (Ieee.add binary32 t.growth_limit t.growth_limit_planned_increase)

-- the limit has an increase to take
abbrev pub limit_grows : Track → Bool
limit_grows t = Ieee.lt zero32 t.growth_limit_planned_increase

abbrev pub flush_limit : Track → Bool → Track
flush_limit t mark = record {
  base_size = t.base_size;
  growth_limit = cond (limit_grows t) (raised_limit t) t.growth_limit;
  base_size_planned_increase = t.base_size_planned_increase;
  growth_limit_planned_increase = zero32;
  item_incurred_increase = t.item_incurred_increase;
  infinitely_growable = cond (limit_grows t) mark false;
}

-- ---- The used space

abbrev pub base_size : List Float → Float
base_size row = get_or row 0 nan

abbrev pub used_space : List (List Float) → Float
used_space rows = sum_of (map base_size rows)
