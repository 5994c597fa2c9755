-- Whether a sheet says few tracks and items, by its two counts alone: who lends rows asks it before he reads. Assumes nothing.
use Rattle.std.specs.Prelude.{ℕ, ◌+◌, Bool, ◌&&◌, List, leb, length}
use Rattle.sheet.specs.Rule.{two_at, tracks_at, items_at}

-- both counts are there, and say no more than so many
abbrev pub says_few : List ℕ → (tracks items : ℕ) → Bool
says_few bytes tracks items =
    leb (tracks_at + 2) (length bytes)
    && (leb (two_at bytes tracks_at) tracks
    && (leb (items_at bytes + 2) (length bytes)
    && leb (two_at bytes (items_at bytes)) items))
