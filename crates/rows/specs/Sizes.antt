-- How many bytes the records of a space, a track and an item have. Assumes nothing.
use Rattle.std.specs.Prelude.{◌≡◌, refl}
use Rattle.records.specs.Rule.{record_size, space_record, track_record, item_record}

pub space_size : 12 ≡ record_size space_record
unfolding record_size
space_size = refl

pub track_size : 10 ≡ record_size track_record
unfolding record_size
track_size = refl

pub item_size : 19 ≡ record_size item_record
unfolding record_size
item_size = refl
