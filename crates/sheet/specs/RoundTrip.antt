-- The conditions under which a sheet and its bytes give each other back. Assumes nothing.
use Rattle.std.specs.Prelude.{◌≡◌, length}
use Rattle.rows.specs.Shapes.{EachLong, width}
use Rattle.sheet.specs.Rule.{Sheet, space_record}

-- the rows have as many numbers as their records say
pub record Shaped (sheet : Sheet) : Type 0 where
  pub of_space : length sheet.space ≡ width space_record
  pub of_tracks : EachLong 4 sheet.tracks
  pub of_items : EachLong 7 sheet.items
